use Rattle.std.proofs.Common.{codes, false}
use Rattle.st_file.proofs.TextWriting.{puts_member, puts_then}
use Rattle.st_file.proofs.saving.bodies.answer.Goals as goal

pub returns : goal.returns
returns g c = puts_then c.put.ensures
    (puts_member false (codes "answer") c.key.ensures c.value.ensures
    c.put-2.ensures)
