use Rattle.std.proofs.Common.{codes, false, true}
use Rattle.st_file.proofs.TextWriting.{puts_member, puts_then}
use Rattle.st_file.proofs.saving.tables.install.Goals as goal

pub returns : goal.returns
returns g c =
    let inner = puts_then c.put-2.ensures
    (puts_member false (codes "class") c.key-2.ensures c.class_name.ensures
    (puts_member true (codes "source") c.key-3.ensures c.text.ensures
    c.put-3.ensures)) in
    puts_then c.put.ensures (puts_member false (codes "install") c.key.ensures inner c.put-4.ensures)
