-- The walk, class by class.
use Rattle.std.proofs.Common.{rules, ◌≡◌, ◌<◌, ◌==◌, ap, ◌∙◌, length, List, Some, None, true, false}
use Rattle.st_classes.specs.declared.values.ClassId.{ClassId}
use Rattle.st_classes.specs.declared.values.Selector.{Selector}
use Rattle.st_classes.specs.declared.edits.Edit.{Edit}
use Rattle.st_classes.specs.declared.kernel.Found.{Found}
use Rattle.st_classes.specs.Classes.{chain, classes, is_class, parent}
use Rattle.st_classes.specs.EditRules.{is_among}
use Rattle.st_classes.specs.Walks.{own, walk, first_own}
use Rattle.st_classes.specs.Tables.{IsKept}
use Rattle.st_classes.proofs.LawChains.{forest, chain_above, chain_at_top, parent_is_class}
use Rattle.st_classes.proofs.Chains.{chain_longer}

pub walk_here : (edits : List Edit) (c : ClassId) (s : Selector) (found : Found) → own edits c s ≡ Some found → walk edits c s ≡ Some found
walk_here edits c s found e = rw e

pub walk_above : (edits : List Edit) (c p : ClassId) (s : Selector) → IsKept edits → own edits c s ≡ None → parent edits c ≡ Some p → walk edits c s ≡ walk edits p s
walk_above edits c p s k e f = ap (λ (cs : List ClassId). first_own edits cs s) (chain_above edits c p k.lawful f) ∙ rw e

pub walk_ends : (edits : List Edit) (c : ClassId) (s : Selector) → own edits c s ≡ None → parent edits c ≡ None → walk edits c s ≡ None
walk_ends edits c s e f = rw (e, f)

pub above_is_class : (edits : List Edit) (c p : ClassId) → IsKept edits → parent edits c ≡ Some p → is_class edits p ≡ true
above_is_class edits c p k e = search (rules, parent_is_class edits c p k.lawful e)

pub above_is_shorter : (edits : List Edit) (c p : ClassId) → IsKept edits → parent edits c ≡ Some p → length (chain edits p) < length (chain edits c)
above_is_shorter edits c p k e = chain_longer (classes edits) (forest edits k.lawful) c p e

-- ---- a class on a chain

pub among_here : (edits : List Edit) (c d : ClassId) → (d.0 == c.0) ≡ true → is_among (chain edits d) c ≡ true
among_here edits c d e = rw e

pub among_above : (edits : List Edit) (c d p : ClassId) → IsKept edits → (d.0 == c.0) ≡ false → parent edits d ≡ Some p → is_among (chain edits d) c ≡ is_among (chain edits p) c
among_above edits c d p k h e = ap (λ (cs : List ClassId). is_among cs c) (chain_above edits d p k.lawful e) ∙ rw h

pub among_top : (edits : List Edit) (c d : ClassId) → (d.0 == c.0) ≡ false → parent edits d ≡ None → is_among (chain edits d) c ≡ false
among_top edits c d h e = ap (λ (cs : List ClassId). is_among cs c) (chain_at_top edits d e) ∙ rw h
