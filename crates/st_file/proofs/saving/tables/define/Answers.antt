use Rattle.std.proofs.Common.{codes, false, true}
use Rattle.st_file.proofs.TextWriting.{puts_member, puts_then}
use Rattle.st_file.proofs.saving.tables.define.Goals as goal

pub returns : goal.returns
returns g c =
    let inner = puts_then c.put-2.ensures
    (puts_member false (codes "name") c.key-2.ensures c.text.ensures
    (puts_member true (codes "slots") c.key-3.ensures c.each.ensures
    (puts_member true (codes "super") c.key-4.ensures c.class_name.ensures
    c.put-3.ensures))) in
    puts_then c.put.ensures (puts_member false (codes "define") c.key.ensures inner c.put-4.ensures)
