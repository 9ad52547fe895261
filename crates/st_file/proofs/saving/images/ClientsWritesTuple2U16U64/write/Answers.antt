use Rattle.st_file.proofs.TextWriting.{puts_then}
use Rattle.st_file.proofs.saving.images.ClientsWritesTuple2U16U64.write.Goals as goal

pub returns : goal.returns
returns g c = puts_then c.put.ensures (puts_then (rw c.into.ensures at c.whole.ensures) (puts_then c.put-2.ensures (puts_then c.whole-2.ensures c.put-3.ensures)))
