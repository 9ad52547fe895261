use Rattle.std.proofs.Common.{refl}
use Rattle.st_image.specs.declared.history.Item.TheVariants as item
use Rattle.st_journal.proofs.Replayed.{does_alone}
use Rattle.st_journal.proofs.redoing.actors.close.Goals as goal

pub returns-in-Ok-clause-ok : goal.returns-in-Ok-clause-ok
returns-in-Ok-clause-ok g c = does_alone _ (item.Closed c.args.actor) _ _ refl tt c.known.ensures c.known-2.ensures c.in-Ok.ensures.0.1.0
