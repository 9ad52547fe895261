use Rattle.std.proofs.Common.{codes, false}
use Rattle.st_file.proofs.TextWriting.{puts_member, puts_then}
use Rattle.st_journal.proofs.lines.define.Goals as goal

pub returns : goal.returns
returns g c = puts_then c.put.ensures (puts_member false (codes "edit") c.key.ensures (rw (c.as_slice.ensures, c.as_slice-2.ensures) at c.define.ensures) c.put-2.ensures)
