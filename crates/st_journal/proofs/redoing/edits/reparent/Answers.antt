use Rattle.std.proofs.Common.{refl}
use Rattle.st_classes.specs.declared.edits.Edit.TheVariants.{Reparent}
use Rattle.st_image.specs.declared.history.Item.TheVariants as item
use Rattle.st_journal.proofs.Replayed.{does_alone}
use Rattle.st_journal.proofs.redoing.edits.reparent.Goals as goal

pub returns-in-Ok-clause-ok : goal.returns-in-Ok-clause-ok
returns-in-Ok-clause-ok g c = does_alone _ (item.Edited (Reparent c.args.class c.args.parent)) _ _ refl tt c.known.ensures c.known-2.ensures c.in-Ok.ensures.0.1.0
