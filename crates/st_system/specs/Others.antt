-- What an event leaves as it was: the caches and the claims of other workers.
use Rattle.std.specs.Prelude.{◌≡◌, ◌≢◌, ℕ, List, map, slice_get, Bool, true, false, Option, Some, None}
use Rattle.st_guard.specs.Moves.{CachesView}
use Rattle.st_system.specs.declared.events.Event.{Event}
use Rattle.st_system.specs.declared.events.Event.TheVariants.{Checkout, Local, Commit, Release, Forget}
use Rattle.st_system.specs.SystemWorkers.{WorkerView}

-- the worker whose event it is; an event of the image has none
abbrev pub worker_of : Event → Option ℕ
worker_of (Checkout w a) = Some w
worker_of (Local w) = Some w
worker_of (Commit w) = Some w
worker_of (Release w) = Some w
worker_of (Forget w) = Some w
worker_of _ = None

-- an event that uses or empties caches: a step, and forgetting
abbrev pub is_of_caches : Event → Bool
is_of_caches (Local w) = true
is_of_caches (Forget w) = true
is_of_caches _ = false

-- the caches of a worker
abbrev pub caches_of : {G : Type 0} → WorkerView G → CachesView G
caches_of s = s.caches

-- every worker but the one whose event it is keeps its caches and its claim; and all workers keep their caches, unless the event uses
-- or empties caches
pub record LeavesOthers {G : Type 0} (e : Event) (old new : List (WorkerView G)) : Type 0 where
  pub workers : (place : ℕ) → worker_of e ≢ Some place → slice_get new place ≡ slice_get old place
  pub caches : is_of_caches e ≡ false → map caches_of new ≡ map caches_of old
