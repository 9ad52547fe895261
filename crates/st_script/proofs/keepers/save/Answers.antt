use Rattle.st_script.proofs.Keeping.{copied_saves}
use Rattle.st_script.proofs.keepers.save.Goals as goal

pub returns : goal.returns
returns g c = copied_saves c.args.image.now c.copied-snapshot.result c.written-reply.result c.replaced-reply.result c.copied-snapshot.ensures.snapshot c.copied-snapshot.ensures.fault c.written-reply.ensures c.replaced-reply.ensures
