use Rattle.std.proofs.Common.{◌≡◌, drop}
use Rattle.std.specs.List.{find}
use Rattle.st_image.specs.Failures.{failures_of}
use Rattle.st_image.specs.NewestResults.{newest}
use Rattle.st_queries.specs.Endings.{failure_of, is_of}
use Rattle.st_queries.proofs.endings.failure_of.Given as goal

-- it is not among those before
abbrev pub invariant-loop-place : goal.invariant-loop-place
invariant-loop-place g l = find (is_of l.actor l.turn) (drop l.place (newest (failures_of l.image))) ≡ failure_of l.image l.actor l.turn
