use Rattle.std.proofs.Common.{◌≡◌, ◌++◌, map, drop}
use Rattle.serde_json.specs.View.{view}
use Rattle.st_file.specs.BodyJson.{frame_json}
use Rattle.st_queries.proofs.bodies.frames.Given as goal

-- the frames so far
abbrev pub invariant-loop-place : goal.invariant-loop-place
invariant-loop-place l = map view l.items ++ map (frame_json l.table.names.now l.table.version.now) (drop l.place l.stack.callers) ≡ map (frame_json l.table.names.now l.table.version.now) l.stack.callers
