use Rattle.st_turn.specs.BodyFits.{FitsSome}
use Rattle.st_script_tests.proofs.steps.run_plainly.Given as goal

abbrev pub invariant-loop-steps : goal.invariant-loop-steps
invariant-loop-steps l = FitsSome l.version (record { 0 = 0 }) l.body
