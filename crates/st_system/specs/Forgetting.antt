-- What an event that empties a worker's caches leaves.
use Rattle.std.specs.Prelude.{List, slice_get}
use Rattle.std.specs.Option.{IfSome}
use Rattle.st_system.specs.declared.events.Event.{Event}
use Rattle.st_system.specs.declared.events.Event.TheVariants.{Forget}
use Rattle.st_system.specs.SystemWorkers.{HaveNothing, WorkerView}

-- if there is a worker that forgets, its caches have nothing afterwards
abbrev pub HasForgotten : {G : Type 0} → Event → List (WorkerView G) → Type 0
HasForgotten (Forget w) workers = IfSome (slice_get workers w) (λ s. HaveNothing s.caches)
HasForgotten e workers = Unit {0}
