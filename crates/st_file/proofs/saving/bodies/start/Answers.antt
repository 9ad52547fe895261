use Rattle.std.proofs.Common.{codes, false, true}
use Rattle.st_file.proofs.TextWriting.{puts_member, puts_then}
use Rattle.st_file.proofs.saving.bodies.start.Goals as goal

pub returns : goal.returns
returns g c =
    let inner = puts_then c.put-2.ensures
    (puts_member false (codes "args") c.key-2.ensures c.values.ensures
    (puts_member true (codes "selector") c.key-3.ensures c.selector_name.ensures
    c.put-3.ensures)) in
    puts_then c.put.ensures (puts_member false (codes "start") c.key.ensures inner c.put-4.ensures)
