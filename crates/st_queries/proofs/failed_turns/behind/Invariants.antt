use Rattle.std.proofs.Common.{◌≡◌, ◌++◌, drop}
use Rattle.std.specs.List.{filter_map}
use Rattle.st_image.specs.Failures.{failures_of}
use Rattle.st_image.specs.NewestResults.{newest}
use Rattle.st_queries.specs.FailedTurns.{failed_behind, if_behind}
use Rattle.st_queries.proofs.failed_turns.behind.Given as goal

-- what was copied so far, and what comes later
abbrev pub invariant-loop-place : goal.invariant-loop-place
invariant-loop-place g l = l.turns.items ++ filter_map (if_behind l.from) (drop l.place (newest (failures_of l.image))) ≡ failed_behind l.from (newest (failures_of l.image))
