-- The first class of a chain with a method of its own has what a walk up that chain finds.
use Rattle.std.proofs.Common.{◌≡◌, List, [], ◌∷◌, Option, Some, None, refl, option_map}
use Rattle.st_classes.specs.declared.values.ClassId.{ClassId}
use Rattle.st_classes.specs.declared.values.Selector.{Selector}
use Rattle.st_classes.specs.declared.edits.Edit.{Edit}
use Rattle.st_classes.specs.declared.kernel.Found.{Found}
use Rattle.st_classes.specs.Classes.{chain}
use Rattle.st_classes.specs.Walks.{first_own, own, walk}
use Rattle.st_queries.specs.Answers.{holder_in}

first_held : (edits : List Edit) (s : Selector) (cs : List ClassId) → option_map (λ held. held.1) (holder_in edits s cs) ≡ first_own edits cs s
first_held edits s [] = refl
first_held edits s (c ∷ cs) = by (own edits c s) refl (first_held edits s cs)
  where
    by : (o : Option Found) → own edits c s ≡ o → option_map (λ held. held.1) (holder_in edits s cs) ≡ first_own edits cs s → option_map (λ held. held.1) (holder_in edits s (c ∷ cs)) ≡ first_own edits (c ∷ cs) s
    by None e rest = rw e rest
    by (Some found) e rest = rw e refl

pub source_is_run : (edits : List Edit) (c : ClassId) (s : Selector) → option_map (λ held. held.1) (holder_in edits s (chain edits c)) ≡ walk edits c s
source_is_run edits c s = first_held edits s (chain edits c)
