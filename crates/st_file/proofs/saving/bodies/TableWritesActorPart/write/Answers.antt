use Rattle.std.proofs.Common.{codes, false, true}
use Rattle.st_file.proofs.TextWriting.{puts_member, puts_then}
use Rattle.st_file.proofs.saving.bodies.TableWritesActorPart.write.Goals as goal

pub returns : goal.returns
returns g c = puts_then c.put.ensures
    (puts_member false (codes "body") c.key.ensures c.body.ensures
    (puts_member true (codes "capacity") c.key-2.ensures (rw c.into.ensures at c.whole.ensures)
    (puts_member true (codes "class") c.key-3.ensures c.class_name.ensures
    (puts_member true (codes "last") c.key-4.ensures c.whole-2.ensures
    (puts_member true (codes "open") c.key-5.ensures c.truth.ensures
    (puts_member true (codes "pending") c.key-6.ensures (rw c.as_slice.ensures at c.each.ensures)
    c.put-2.ensures))))))
