use Rattle.st_turn.specs.BodyFits.{FitsSome}
use Rattle.st_turn_tests.proofs.plain.take_steps.Given as goal

abbrev pub invariant-loop-taken : goal.invariant-loop-taken
invariant-loop-taken l = FitsSome l.version l.actor l.body
