-- Failures, as what is kept of an actor tells them.
use Rattle.std.specs.Prelude.{ℕ, Option, Some, None, option_map}
use Rattle.st_classes.specs.declared.values.ActorId.{ActorId}
use Rattle.st_classes.specs.declared.faults.Fault.{Fault}
use Rattle.st_turn.specs.declared.body.Body.{Body}
use Rattle.st_image.specs.ActorViews.{ActorView}
use Rattle.st_image.specs.Failures.{Failure, fault_in, last_turn}

-- the number of the turn that an actor has ended last, and the fault with which it ended, if it ended with one
abbrev pub ended_by_fault : ℕ → Option ActorView → Option (ℕ × Fault)
ended_by_fault first None = None
ended_by_fault first (Some k) = option_map (λ e. (last_turn first k.results.count, e)) (fault_in k.body.phase)

-- the failure of a turn, if it ended with one
abbrev pub failure_told : ActorId → ℕ → Body → Option (ℕ × Fault) → Option Failure
failure_told a step body ended =
    option_map (λ (p : ℕ × Fault). record { actor = a; turn = p.0; fault = p.1; step = step; body = body }) ended
