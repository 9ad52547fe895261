use Rattle.std.proofs.Common.{drop, take, take-append-drop}
use Rattle.st_file.proofs.saving.text_writer.TextWriter.pass.Goals as goal

pub returns-in-Err-clause-stores : goal.returns-in-Err-clause-stores
returns-in-Err-clause-stores g c =
    let front = c.in-Err.ensures.front in
    let bytes = c.args.bytes.now in
    record {
      sent = take front.0 bytes;
      appended = front.2;
      taken = rw (c.requires.unfailed, c.requires.nothing) ((drop front.0 bytes, take-append-drop front.0 bytes), c.in-Err.ensures.failed);
      unflushed = c.in-Err.ensures.unflushed;
    }
