use Rattle.std.proofs.Common.{◌∙◌, sym}
use Rattle.st_classes.proofs.Indexing.{lookup_by_text}
use Rattle.st_classes.proofs.class_index.ClassIndex.get.Goals as goal

pub returns : goal.returns
returns c = rw (← c.self.view_is) (c.copied.ensures ∙ c.get.ensures.value ∙ sym (lookup_by_text c.args.name.now c.self.inside.classes.entries))
