use Rattle.st_file.proofs.TextWriting.{sends_refused}
use Rattle.st_file.proofs.saving.text_writer.TextWriter.send.Goals as goal

pub returns-in-None : goal.returns-in-None
returns-in-None g c = sends_refused c.args.bytes.now c.refuse.ensures.failed c.refuse.ensures.stores
