use Rattle.std.proofs.Common.{codes, false, true}
use Rattle.st_file.proofs.TextWriting.{puts_member, puts_then}
use Rattle.st_file.proofs.saving.bodies.frame.Goals as goal

pub returns : goal.returns
returns g c = rw (← c.frame.view_is) (puts_then c.put.ensures
    (puts_member false (codes "method") c.key.ensures (rw c.into.ensures at c.whole.ensures)
    (puts_member true (codes "operands") c.key-2.ensures c.values.ensures
    (puts_member true (codes "pc") c.key-3.ensures (rw c.into-2.ensures at c.whole-2.ensures)
    (puts_member true (codes "receiver") c.key-4.ensures c.value.ensures
    (puts_member true (codes "temps") c.key-5.ensures c.values-2.ensures
    c.put-2.ensures))))))
