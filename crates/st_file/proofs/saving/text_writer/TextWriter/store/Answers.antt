use Rattle.st_file.proofs.TextWriting.{stores_same, stores_then}
use Rattle.st_file.proofs.saving.text_writer.TextWriter.store.Goals as goal

pub returns-clause-stores : goal.returns-clause-stores
returns-clause-stores g c =
    let on = stores_same c.args.self.now c.if-hold.ensures.same.0 c.if-hold.ensures.left c.pass_on.ensures.stores in
    let behind = stores_same c.pass_on.new.self c.if-hold-2.ensures.same.0 c.if-hold-2.ensures.left c.pass.ensures.stores in
    stores_then on behind
