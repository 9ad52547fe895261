use Rattle.std.proofs.Common.{◌≡◌, ◌++◌, map, drop}
use Rattle.std.specs.List.{enumerate_from}
use Rattle.serde_json.specs.View.{view}
use Rattle.st_queries.specs.Failing.{placed_told}
use Rattle.st_queries.proofs.failing.all_frames.Given as goal

-- the frames so far
abbrev pub invariant-loop-place : goal.invariant-loop-place
invariant-loop-place l = map view l.items ++ map (placed_told l.table.names.now l.table.version.now l.offsets l.objects) (drop l.place (enumerate_from 0 l.stack.callers)) ≡ map (placed_told l.table.names.now l.table.version.now l.offsets l.objects) (enumerate_from 0 l.stack.callers)
