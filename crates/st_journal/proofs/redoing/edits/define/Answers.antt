use Rattle.std.proofs.Common.{⊎_elim, ap}
use Rattle.st_classes.specs.declared.edits.Edit.TheVariants.{Define}
use Rattle.st_image.specs.declared.history.Item.TheVariants as item
use Rattle.st_journal.specs.declared.entries.Entry.TheVariants as entry
use Rattle.st_journal.proofs.Replayed.{does_alone}
use Rattle.st_journal.proofs.redoing.edits.define.Goals as goal

pub returns-in-Ok-defined-clause-ok : goal.returns-in-Ok-defined-clause-ok
returns-in-Ok-defined-clause-ok g c =
    let copied = c.in-Ok.ensures in
    ⊎_elim
    (λ none. absurd (cc none.0))
    (λ made. does_alone _ (item.Edited (Define c.args.name.now c.args.parent c.in-Ok.slots)) _ _ (ap (λ slots. entry.Define c.args.name.now c.args.parent slots) copied) tt c.known.ensures c.known-2.ensures made.0.1.0)
    c.in-Ok-defined.ensures
