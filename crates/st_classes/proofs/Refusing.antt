-- No rule of an edit speaks of memory; two tests of one fact say the same.
use Rattle.std.proofs.Common.{◌≡◌, List, [], ◌∷◌, Some, Bool, true, false, refl, sym}
use Rattle.std.specs.Prelude.{Decides}
use Rattle.st_classes.specs.declared.edits.Edit.{Edit}
use Rattle.st_classes.specs.declared.edits.Edit.TheVariants.{Define, Install, Remove, Reparent}
use Rattle.st_classes.specs.declared.refusals.Refusal.TheVariants.{NoMemory}
use Rattle.st_classes.specs.Refusals.{Rule, first_of}
use Rattle.st_classes.specs.EditRules.{edit_rules}

-- no rule of a list refuses for want of memory
abbrev NeverMemory : List Rule → Type 0
NeverMemory [] = Unit {0}
NeverMemory (rule ∷ rules) = (rule.1 ≡ NoMemory → ⊥) × NeverMemory rules

first_other : (rules : List Rule) → NeverMemory rules → first_of rules ≡ Some NoMemory → ⊥
first_other [] n h = cc
first_other ((true, r) ∷ rules) n h = let same : r ≡ NoMemory = cc in n.0 same
first_other ((false, r) ∷ rules) n h = first_other rules n.1 h

edit_never : (edits : List Edit) (e : Edit) → NeverMemory (edit_rules edits e)
edit_never edits (Define name parent added) = (λ h. cc, (λ h. cc, (λ h. cc, (λ h. cc, (λ h. cc, (λ h. cc, (λ h. cc, (λ h. cc, (λ h. cc, tt)))))))))
edit_never edits (Install c m) = (λ h. cc, (λ h. cc, (λ h. cc, tt)))
edit_never edits (Remove c s) = (λ h. cc, (λ h. cc, (λ h. cc, (λ h. cc, tt))))
edit_never edits (Reparent c p) = (λ h. cc, (λ h. cc, (λ h. cc, (λ h. cc, (λ h. cc, (λ h. cc, (λ h. cc, tt)))))))

pub refusal_other : (edits : List Edit) (e : Edit) → first_of (edit_rules edits e) ≡ Some NoMemory → ⊥
refusal_other edits e h = first_other (edit_rules edits e) (edit_never edits e) h

pub decided_same : {P : Type 0} (a b : Bool) → Decides a P → Decides b P → a ≡ b
decided_same true true h g = refl
decided_same false false h g = refl
decided_same true false h g = sym (g.1 (h.0 refl))
decided_same false true h g = h.1 (g.0 refl)
