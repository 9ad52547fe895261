use Rattle.std.proofs.Common.{drop, take, take-append-drop}
use Rattle.st_file.proofs.saving.text_writer.TextWriter.finish.Goals as goal

pub returns : goal.returns
returns g c =
    let front = c.in-Err.ensures.front in
    let held = c.args.self.held.items in
    record {
      sent = take front.0 held;
      appended = rw c.deref.ensures.value at front.2;
      left = rw c.if-self.false ((drop front.0 held, take-append-drop front.0 held), c.in-Err.ensures.failed);
    }
