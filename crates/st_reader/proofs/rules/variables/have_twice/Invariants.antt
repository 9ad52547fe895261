use Rattle.std.proofs.Common.{◌≡◌, ◌++◌, length, map}
use Rattle.st_classes.specs.EditRules.{has_twice as twice}
use Rattle.st_reader.specs.Variables.{texts}
use Rattle.st_reader.proofs.rules.variables.have_twice.Given as goal

abbrev pub invariant-loop-parameter : goal.invariant-loop-parameter
invariant-loop-parameter l = twice (texts (map (λ p. p.argument) l.rest ++ l.names)) ≡ twice (texts (map (λ p. p.argument) l.parameters ++ l.names))

abbrev pub decreases-loop-parameter : goal.decreases-loop-parameter
decreases-loop-parameter l = length l.rest
