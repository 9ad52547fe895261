use Rattle.std.proofs.Common.{codes, false, true}
use Rattle.st_file.proofs.TextWriting.{puts_member, puts_then}
use Rattle.st_file.proofs.saving.bodies.body.Goals as goal

pub returns : goal.returns
returns g c = puts_then c.put.ensures
    (puts_member false (codes "objects") c.key.ensures (rw c.as_slice.ensures at c.each.ensures)
    (puts_member true (codes "phase") c.key-2.ensures c.turn.ensures
    c.put-2.ensures))
