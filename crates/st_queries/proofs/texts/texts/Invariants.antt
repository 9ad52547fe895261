use Rattle.std.proofs.Common.{◌≡◌, ◌++◌, map, drop}
use Rattle.serde_json.specs.Data.{string}
use Rattle.serde_json.specs.View.{view}
use Rattle.st_queries.proofs.texts.texts.Given as goal

-- the texts so far
abbrev pub invariant-loop-place : goal.invariant-loop-place
invariant-loop-place l = map view l.items ++ map string (drop l.place l.list) ≡ map string (drop l.first l.list)
