use Rattle.std.proofs.Common.{codes, false, true}
use Rattle.st_file.proofs.TextWriting.{puts_member, puts_then}
use Rattle.st_journal.proofs.headers.write.Goals as goal

pub returns : goal.returns
returns g c =
    let inside = puts_then c.put-2.ensures
    (puts_member false (codes "capacity") c.key-2.ensures (rw c.into.ensures at c.whole.ensures)
    (puts_member true (codes "format") c.key-3.ensures c.whole-2.ensures
    (puts_member true (codes "image") c.key-4.ensures c.word.ensures
    c.put-3.ensures))) in
    puts_then c.put.ensures (puts_member false (codes "journal") c.key.ensures inside c.put-4.ensures)
