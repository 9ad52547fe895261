-- What events do to a whole system, with the caches of its workers and the whole of their claims, one after the other.
use Rattle.std.specs.Prelude.{◌≡◌, ℕ, Bool, List, [], ◌∷◌, Result}
use Rattle.st_classes.specs.declared.edits.Edit.{Edit}
use Rattle.st_classes.specs.declared.values.Selector.{Selector}
use Rattle.st_classes.specs.declared.refusals.Refusal.{Refusal}
use Rattle.st_system.specs.declared.events.Answer.{Answer}
use Rattle.st_system.specs.declared.events.Event.{Event}
use Rattle.st_system.specs.Acts.{Acts}
use Rattle.st_system.specs.Forgetting.{HasForgotten}
use Rattle.st_system.specs.Others.{LeavesOthers}
use Rattle.st_system.specs.Schedules.{schedule}
use Rattle.st_system.specs.SystemWorkers.{SystemView}
use Rattle.st_system.specs.WorkerEvents.{TellsWork}

-- what an event does: to the schedule, to the caches of a worker that forgets, to the other workers, and to the whole of its own
pub record Happens {G : Type 0} (count : G → ℕ) (floor : G → Selector → ℕ) (raises : Edit → Selector → Bool)
    (S : SystemView G) (e : Event) (r : Result Answer Refusal) (T : SystemView G) : Type 0 where
  pub acts : Acts (schedule S) e r (schedule T)
  pub forgotten : HasForgotten e T.workers
  pub others : LeavesOthers e S.workers T.workers
  pub work : TellsWork count floor raises S e r T

-- events, one after the other
abbrev pub Happen : {G : Type 0} → (G → ℕ) → (G → Selector → ℕ) → (Edit → Selector → Bool)
    → SystemView G → List Event → SystemView G → Type 0
Happen {G} count floor raises S [] T = T ≡ S
Happen {G} count floor raises S (e ∷ es) T = (r : Result Answer Refusal) × (M : SystemView G)
    × Happens count floor raises S e r M × Happen count floor raises M es T
