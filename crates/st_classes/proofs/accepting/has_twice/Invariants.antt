use Rattle.std.proofs.Common.{◌≡◌, length}
use Rattle.st_classes.specs.EditRules.{has_twice as twice}
use Rattle.st_classes.proofs.accepting.has_twice.Given as goal

abbrev pub invariant-loop-rest : goal.invariant-loop-rest
invariant-loop-rest l = twice l.rest ≡ twice l.texts

abbrev pub decreases-loop-rest : goal.decreases-loop-rest
decreases-loop-rest l = length l.rest
