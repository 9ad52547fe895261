use Rattle.std.proofs.Common.{codes, false, true}
use Rattle.st_file.proofs.TextWriting.{puts_member, puts_then}
use Rattle.st_file.proofs.saving.values.TableWritesMessage.write.Goals as goal

pub returns : goal.returns
returns g c = puts_then c.put.ensures
    (puts_member false (codes "args") c.key.ensures (rw c.as_slice.ensures at c.values.ensures)
    (puts_member true (codes "selector") c.key-2.ensures c.selector_name.ensures
    (puts_member true (codes "sender") c.key-3.ensures c.sender.ensures
    (puts_member true (codes "seq") c.key-4.ensures c.whole.ensures
    c.put-2.ensures))))
