use Rattle.std.proofs.Common.{◌≡◌, ◌++◌, length}
use Rattle.st_classes.specs.EditRules.{has_twice as twice}
use Rattle.st_classes.proofs.accepting.has_clash.Given as goal

abbrev pub invariant-loop-rest : goal.invariant-loop-rest
invariant-loop-rest l = twice (l.rest ++ l.back) ≡ twice (l.front ++ l.back)

abbrev pub decreases-loop-rest : goal.decreases-loop-rest
decreases-loop-rest l = length l.rest
