use Rattle.std.proofs.Common.{drop, take, sym, ◌∙◌, append-nil, take-append-drop}
use Rattle.st_file.proofs.saving.text_writer.TextWriter.pass_on.Goals as goal

pub returns-in-Err-clause-stores : goal.returns-in-Err-clause-stores
returns-in-Err-clause-stores g c =
    let front = c.in-Err.ensures.front in
    let held = c.args.self.now.held.items in
    record {
      sent = take front.0 held;
      appended = rw c.deref.ensures.value at front.2;
      taken = rw c.requires ((drop front.0 held, take-append-drop front.0 held ∙ sym (append-nil held)), c.in-Err.ensures.failed);
      unflushed = c.in-Err.ensures.unflushed;
    }
