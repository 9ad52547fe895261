use Rattle.std.proofs.Common.{refl}
use Rattle.serde_json.specs.Written.{compact_text}
use Rattle.st_file.specs.Saving.{value_line}
use Rattle.st_file.proofs.TextWriting.{finished, puts_then}
use Rattle.st_file.proofs.Written.{is_line_of}
use Rattle.st_file.proofs.saving.write_snapshot.Goals as goal

pub returns-clause-written : goal.returns-clause-written
returns-clause-written g c =
    let v = c.write.ensures.0 in
    let written = c.write.ensures.1 in
    let puts = c.write.ensures.2 in
    let all = puts_then puts c.put.ensures in
    let new = c.new-writer.ensures in
    (v, written, is_line_of v (compact_text v) (value_line v) refl puts.utf8 written.again refl, finished c.finish.result (value_line v) new.unfailed new.nothing.0 new.nothing.1 all.sends c.finish.ensures)
