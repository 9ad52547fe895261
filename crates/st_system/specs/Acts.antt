-- What each event does to a schedule, and lists of events.
use Rattle.std.specs.Prelude.{◌≡◌, List, [], ◌∷◌, Result, slice_get}
use Rattle.st_classes.specs.declared.refusals.Refusal.{Refusal}
use Rattle.st_system.specs.declared.events.Answer.{Answer}
use Rattle.st_system.specs.declared.events.Event.{Event}
use Rattle.st_system.specs.declared.events.Event.TheVariants.{Call, Checkout, Local, Commit, Release, Forget}
use Rattle.st_system.specs.Schedules.{Schedule}
use Rattle.st_system.specs.ImageEvents.{Calls}
use Rattle.st_system.specs.ClaimEvents.{AtWorker, CommitsClaim, KeepsClaim, OfClaim, ReleasesClaim, StepsClaim, TakesClaim}

-- what an event does to a schedule, and its answer
abbrev pub Acts : Schedule → Event → Result Answer Refusal → Schedule → Type 0
Acts S (Call c) r T = Calls S c r T
Acts S (Checkout w a) r T = AtWorker (TakesClaim a) S w r T (slice_get S.claims w)
Acts S (Local w) r T = AtWorker (OfClaim StepsClaim) S w r T (slice_get S.claims w)
Acts S (Commit w) r T = AtWorker (OfClaim CommitsClaim) S w r T (slice_get S.claims w)
Acts S (Release w) r T = AtWorker (OfClaim ReleasesClaim) S w r T (slice_get S.claims w)
Acts S (Forget w) r T = AtWorker KeepsClaim S w r T (slice_get S.claims w)

-- events, one after the other, lead from one schedule to another with these answers
abbrev pub Runs : Schedule → List Event → List (Result Answer Refusal) → Schedule → Type 0
Runs S [] [] T = T ≡ S
Runs S (e ∷ es) (r ∷ rs) T = (M : Schedule) × Acts S e r M × Runs M es rs T
Runs S [] (r ∷ rs) T = ⊥
Runs S (e ∷ es) [] T = ⊥

-- with some answers the events lead from one schedule to another
abbrev pub Leads : Schedule → List Event → Schedule → Type 0
Leads S es T = (answers : List (Result Answer Refusal)) × Runs S es answers T
