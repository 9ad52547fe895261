use Rattle.std.proofs.Common.{All, sym, subst}
use Rattle.st_file.specs.Tellable.{IsText}
use Rattle.st_queries.proofs.SlotTexts.{slots_are_text}
use Rattle.st_queries.proofs.classes.added_slots.Goals as goal

pub texts-requires : goal.texts-requires
texts-requires c = subst (All IsText) (sym c.slots.ensures) (slots_are_text c.args.version.now c.args.class c.known.ensures.lawful)
