use Rattle.std.proofs.Common.{codes, false}
use Rattle.st_file.proofs.TextWriting.{puts_member, puts_then}
use Rattle.st_journal.proofs.lines.ran.Goals as goal

pub returns : goal.returns
returns g c =
    let pair = puts_then c.put-2.ensures (puts_then (rw c.into.ensures at c.whole.ensures) (puts_then c.put-3.ensures (puts_then (rw c.into-2.ensures at c.whole-2.ensures) c.put-4.ensures))) in
    puts_then c.put.ensures (puts_member false (codes "ran") c.key.ensures pair c.put-5.ensures)
