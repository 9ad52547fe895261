use Rattle.std.proofs.Common.{codes, false, true}
use Rattle.st_file.proofs.TextWriting.{puts_member, puts_then}
use Rattle.st_file.proofs.saving.bodies.TableWritesObject.write.Goals as goal

pub returns : goal.returns
returns g c = puts_then c.put.ensures
    (puts_member false (codes "class") c.key.ensures c.class_name.ensures
    (puts_member true (codes "slots") c.key-2.ensures (rw c.as_slice.ensures at c.values.ensures)
    c.put-2.ensures))
