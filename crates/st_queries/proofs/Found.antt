-- Walking up to the first class that has a method of its own.
use Rattle.std.proofs.Common.{◌≡◌, List, Some, None, refl, ap, ◌∙◌, length, ◌<◌, true, arith, Result, Ok}
use Rattle.std.proofs.lemmas.Bool.Decides.{nat_tests}
use Rattle.st_classes.specs.declared.values.ClassId.{ClassId}
use Rattle.st_classes.specs.declared.values.Selector.{Selector}
use Rattle.st_classes.specs.declared.edits.Edit.{Edit}
use Rattle.st_classes.specs.declared.kernel.Found.{Found}
use Rattle.st_classes.specs.Classes.{IsForest, chain, classes, is_class, parent}
use Rattle.st_classes.specs.Walks.{own}
use Rattle.serde_json.specs.declared.value.Value.{Value}
use Rattle.st_classes.specs.declared.refusals.Refusal.{Refusal}
use Rattle.st_queries.specs.Answers.{IsAnswer, holder_in, source_told}
use Rattle.st_queries.specs.Resolving.{and_then}

-- a class with a method of its own
pub holds_here : (edits : List Edit) (c : ClassId) (s : Selector) (found : Found) → own edits c s ≡ Some found → holder_in edits s (chain edits c) ≡ Some (c, found)
holds_here edits c s found e = rw e refl

-- a class without one, under another
pub holds_above : (edits : List Edit) (c p : ClassId) (s : Selector) → IsForest (classes edits) → own edits c s ≡ None → parent edits c ≡ Some p → holder_in edits s (chain edits c) ≡ holder_in edits s (chain edits p)
holds_above edits c p s forest e up = ap (holder_in edits s) (forest.chains c p up) ∙ rw e refl

-- a class without one, at the end of its chain
pub holds_nowhere : (edits : List Edit) (c : ClassId) (s : Selector) → own edits c s ≡ None → parent edits c ≡ None → holder_in edits s (chain edits c) ≡ None
holds_nowhere edits c s e up = rw (e, up) refl

pub chain_is_shorter : (edits : List Edit) (c p : ClassId) → IsForest (classes edits) → parent edits c ≡ Some p → length (chain edits p) < length (chain edits c)
chain_is_shorter edits c p forest up = let longer = ap length (forest.chains c p up) in omega (arith, longer)

pub parent_is_class : (edits : List Edit) (c p : ClassId) → IsForest (classes edits) → parent edits c ≡ Some p → is_class edits p ≡ true
parent_is_class edits c p forest up = let within = forest.closed c p up in grind (arith, nat_tests)

-- what is told of a class and a selector that texts name
pub source_answers : (edits : List Edit) (named : Result ClassId Refusal) (found : Result Selector Refusal) (c : ClassId) (s : Selector) (r : Result Value Refusal) → named ≡ Ok c → found ≡ Ok s
    → IsAnswer (source_told edits c s) r → IsAnswer (and_then (λ k. and_then (source_told edits k) found) named) r
source_answers edits named found c s r e f h = rw (e, f) h
