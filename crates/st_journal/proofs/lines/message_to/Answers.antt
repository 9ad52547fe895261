use Rattle.std.proofs.Common.{codes, false, true}
use Rattle.st_file.proofs.TextWriting.{puts_member, puts_then}
use Rattle.st_journal.proofs.lines.message_to.Goals as goal

pub returns : goal.returns
returns g c = puts_then c.put.ensures
    (puts_member false (codes "actor") c.key.ensures (rw c.into.ensures at c.whole.ensures)
    (puts_member true (codes "args") c.key-2.ensures (rw c.as_slice.ensures at c.values.ensures)
    (puts_member true (codes "selector") c.key-3.ensures c.selector_name.ensures
    (puts_member true (codes "sender") c.key-4.ensures c.sender.ensures
    (puts_member true (codes "seq") c.key-5.ensures c.whole-2.ensures
    c.put-2.ensures)))))
