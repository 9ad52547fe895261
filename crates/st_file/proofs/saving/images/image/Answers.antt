use Rattle.std.proofs.Common.{codes, false, true}
use Rattle.st_file.proofs.TextWriting.{puts_member, puts_then}
use Rattle.st_file.proofs.saving.images.image.Goals as goal

pub returns : goal.returns
returns g c = puts_then c.put.ensures
    (puts_member false (codes "actors") c.key.ensures c.each.ensures
    (puts_member true (codes "edits") c.key-2.ensures c.edits.ensures
    (puts_member true (codes "format") c.key-3.ensures c.whole.ensures
    (puts_member true (codes "names") c.key-4.ensures c.new_names.ensures
    (puts_member true (codes "posts") c.key-5.ensures c.whole-2.ensures
    (puts_member true (codes "senders") c.key-6.ensures c.each-2.ensures
    (puts_member true (codes "steps") c.key-7.ensures c.whole-3.ensures
    c.put-2.ensures)))))))
