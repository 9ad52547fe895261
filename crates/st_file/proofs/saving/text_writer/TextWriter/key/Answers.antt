use Rattle.st_file.proofs.TextWriting.{puts_then}
use Rattle.st_file.proofs.saving.text_writer.TextWriter.key.Goals as goal

pub returns : goal.returns
returns g c = puts_then c.comma.ensures (puts_then c.word.ensures c.put.ensures)
