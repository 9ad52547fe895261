use Rattle.std.proofs.Common.{codes, false}
use Rattle.st_file.proofs.TextWriting.{puts_member, puts_then}
use Rattle.st_journal.proofs.lines.created.Goals as goal

pub returns : goal.returns
returns g c = puts_then c.put.ensures (puts_member false (codes "actor") c.key.ensures c.class_name.ensures c.put-2.ensures)
