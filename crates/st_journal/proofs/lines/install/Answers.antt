use Rattle.std.proofs.Common.{codes, false}
use Rattle.st_file.proofs.TextWriting.{puts_member, puts_then}
use Rattle.st_journal.proofs.lines.install.Goals as goal

pub returns : goal.returns
returns g c = puts_then c.put.ensures (puts_member false (codes "edit") c.key.ensures (rw c.as_slice.ensures at c.install.ensures) c.put-2.ensures)
