use Rattle.std.proofs.Common.{false}
use Rattle.st_file.proofs.TextWriting.{puts_member, puts_then}
use Rattle.st_file.proofs.saving.values.number_at.Goals as goal

pub returns : goal.returns
returns g c = puts_then c.put.ensures (puts_member false c.args.key.now c.key.ensures c.whole.ensures c.put-2.ensures)
