use Rattle.std.proofs.lemmas.List.Elements.{same_from_all_zip}
use Rattle.st_classes.proofs.Indexing.{same_texts}
use Rattle.st_classes.proofs.class_index.ClassIndex.again.Goals as goal

pub returns : goal.returns
returns c = rw (← c.self.view_is) (same_texts _ _ (λ x y h. same_from_all_zip _ x.items y.items h.0 (λ a b r. r)) (λ x y r. r) _ _ c.in_ok-clone.ensures.cases)
