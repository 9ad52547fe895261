use Rattle.std.proofs.Common.{◌≡◌, length}
use Rattle.st_classes.specs.EditRules.{has_twice as twice}
use Rattle.st_reader.specs.Variables.{texts}
use Rattle.st_reader.proofs.rules.variables.has_twice.Given as goal

abbrev pub invariant-loop-name : goal.invariant-loop-name
invariant-loop-name l = twice (texts l.rest) ≡ twice (texts l.names)

abbrev pub decreases-loop-name : goal.decreases-loop-name
decreases-loop-name l = length l.rest
