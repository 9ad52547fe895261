-- Events of a whole system, one event more.
use Rattle.std.proofs.Common.{ℕ, Bool, ◌++◌, [], ◌∷◌, List, Result, refl, subst}
use Rattle.st_classes.specs.declared.edits.Edit.{Edit}
use Rattle.st_classes.specs.declared.values.Selector.{Selector}
use Rattle.st_classes.specs.declared.refusals.Refusal.{Refusal}
use Rattle.st_system.specs.declared.events.Answer.{Answer}
use Rattle.st_system.specs.declared.events.Event.{Event}
use Rattle.st_system.specs.Happening.{Happen, Happens}
use Rattle.st_system.specs.SystemWorkers.{SystemView}

pub happen_push : {G : Type 0} (count : G → ℕ) (floor : G → Selector → ℕ) (raises : Edit → Selector → Bool) (S M T : SystemView G) (es : List Event) (e : Event) (r : Result Answer Refusal)
    → Happen count floor raises S es M → Happens count floor raises M e r T → Happen count floor raises S (es ++ e ∷ []) T
happen_push {G} count floor raises S M T [] e r h a = (r, T, subst (λ (X : SystemView G). Happens count floor raises X e r T) h a, refl)
happen_push {G} count floor raises S M T (d ∷ es) e r h a = (h.0, h.1, h.2, happen_push count floor raises h.1 M T es e r h.3 a)
