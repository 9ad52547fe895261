-- The turns of an image that ended with a fault.
use Rattle.std.specs.Prelude.{ℕ, suc, ◌+◌, ◌-◌, List, [], ◌∷◌, ◌++◌, length, Option, Some, None, slice_get, option_and_then, option_map, option_to_list}
use Rattle.st_classes.specs.declared.values.ActorId.{ActorId}
use Rattle.st_classes.specs.declared.faults.Fault.{Fault}
use Rattle.st_turn.specs.declared.body.Body.{Body}
use Rattle.st_turn.specs.declared.body.Outcome.TheVariants.{Fault as Faulted}
use Rattle.st_turn.specs.declared.body.Phase.{Phase}
use Rattle.st_turn.specs.declared.body.Phase.TheVariants.{Done}
use Rattle.st_image.specs.declared.history.Item.{Item}
use Rattle.st_image.specs.declared.history.Item.TheVariants.{Ran}
use Rattle.st_image.specs.Worlds.{Constants, World, WorldActor}
use Rattle.st_image.specs.Replay.{after_step, next}
use Rattle.st_image.specs.ActResults.{world_after}
use Rattle.st_image.specs.Counts.{ran_of}
use Rattle.st_image.specs.Images.{ImageView, constants}
use Rattle.st_image.specs.NewestResults.{newest}
use Rattle.st_image.specs.WorldInvariant.{first_turn}

-- A turn that ended with a fault: its actor, its number, the fault, the image's number of the step that failed, and the actor's body
-- before that step.
pub record Failure : Type 0 where
  pub actor : ActorId
  pub turn : ℕ
  pub fault : Fault
  pub step : ℕ
  pub body : Body

-- the fault with which a turn has ended, if so
abbrev pub fault_in : Phase → Option Fault
fault_in (Done (Faulted e)) = Some e
fault_in _ = None

-- the number of the turn that an actor has ended last, where its first one has this number and so many have ended
abbrev pub last_turn : ℕ → ℕ → ℕ
last_turn first ended = first + (ended - 1)

-- the failure that a step of an actor was, if it was one; the actor before it, and after it
abbrev pub failure_by : ActorId → ℕ → ℕ → Option WorldActor → Option WorldActor → Option Failure
failure_by a first step (Some b) (Some d) = option_map
    (λ e. record { actor = a; turn = last_turn first (length d.results); fault = e; step = step; body = b.body })
    (fault_in d.body.phase)
failure_by a first step _ _ = None

-- the same of a step from a world
abbrev pub failure_at : Constants → World → ActorId → ℕ → World → Option Failure
failure_at c base a step w = failure_by a (first_turn (slice_get base.actors a.0)) step
    (slice_get w.actors a.0)
    (option_and_then (λ v. slice_get v.actors a.0) (after_step c a w))

-- the failure that the last step of an item was, if it was one; `taken` steps were taken before the item, at the world w
abbrev pub failure_in : Constants → World → ℕ → World → Item → Option Failure
failure_in c base taken w (Ran a (suc n)) = option_and_then (failure_at c base a (taken + suc n)) (world_after c a n w)
failure_in c base taken w _ = None

-- the failures from a world on, if there is one
abbrev pub failures_from : (World → List Failure) → Option World → List Failure
failures_from failures None = []
failures_from failures (Some w) = failures w

-- the failures of a history, from a world on
abbrev pub failures_through : Constants → World → ℕ → World → List Item → List Failure
failures_through c base taken w [] = []
failures_through c base taken w (i ∷ is) =
    option_to_list (failure_in c base taken w i)
    ++ failures_from (λ v. failures_through c base (taken + ran_of i) v is) (next c w i)

-- the failures of an image since its base, the oldest first
abbrev pub failures_of : ImageView → List Failure
failures_of i = failures_through (constants i) i.base i.standing.earlier.steps i.base i.history

-- what is kept of failures: the newest, and how many there were
pub record KeptFailures : Type 0 where
  pub items : List Failure
  pub count : ℕ

-- what is kept of all failures
abbrev pub failures_kept : List Failure → KeptFailures
failures_kept all = record { items = newest all; count = length all }

-- what is kept with one more, if there is one
abbrev pub kept_after : KeptFailures → Option Failure → KeptFailures
kept_after k None = k
kept_after k (Some f) = record { items = newest (k.items ++ f ∷ []); count = k.count + 1 }
