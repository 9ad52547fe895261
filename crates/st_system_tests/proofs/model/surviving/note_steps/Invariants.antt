use Rattle.st_turn.specs.BodyFits.{FitsSome}
use Rattle.st_system_tests.proofs.model.surviving.note_steps.Given as goal

abbrev pub invariant-loop-step : goal.invariant-loop-step
invariant-loop-step l = FitsSome l.version l.actor l.body
