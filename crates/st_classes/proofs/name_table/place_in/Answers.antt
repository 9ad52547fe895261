use Rattle.std.proofs.Common.{◌∙◌}
use Rattle.st_classes.proofs.Naming.{place-of_texts, found-of_texts}
use Rattle.st_classes.proofs.name_table.place_in.Goals as goal

pub returns-clause-place : goal.returns-clause-place
returns-clause-place c = c.get_index_of.ensures.index ∙ place-of_texts c.args.text.now c.args.texts.now.keys

pub returns-clause-found : goal.returns-clause-found
returns-clause-found c = c.get_index_of.ensures.found ∙ found-of_texts c.args.text.now c.args.texts.now.keys
