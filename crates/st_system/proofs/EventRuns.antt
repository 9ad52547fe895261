-- Rows of events, one event more.
use Rattle.std.proofs.Common.{◌++◌, [], ◌∷◌, List, Result, refl, subst}
use Rattle.st_classes.specs.declared.refusals.Refusal.{Refusal}
use Rattle.st_system.specs.declared.events.Answer.{Answer}
use Rattle.st_system.specs.declared.events.Event.{Event}
use Rattle.st_system.specs.Schedules.{Schedule}
use Rattle.st_system.specs.Acts.{Acts, Leads, Runs}

pub runs_push : (S M T : Schedule) (es : List Event) (rs : List (Result Answer Refusal)) (e : Event) (r : Result Answer Refusal) → Runs S es rs M → Acts M e r T → Runs S (es ++ e ∷ []) (rs ++ r ∷ []) T
runs_push S M T [] [] e r h a = (T, subst (λ (X : Schedule). Acts X e r T) h a, refl)
runs_push S M T (d ∷ es) (q ∷ rs) e r h a = (h.0, h.1, runs_push h.0 M T es rs e r h.2 a)
runs_push S M T [] (q ∷ rs) e r h a = absurd h
runs_push S M T (d ∷ es) [] e r h a = absurd h

pub leads_push : (S M T : Schedule) (es : List Event) (e : Event) (r : Result Answer Refusal) → Leads S es M → Acts M e r T → Leads S (es ++ e ∷ []) T
leads_push S M T es e r (rs, h) a = (rs ++ r ∷ [], runs_push S M T es rs e r h a)
