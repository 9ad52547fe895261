use Rattle.std.proofs.Common.{◌≡◌, ◌++◌, map, drop}
use Rattle.serde_json.specs.View.{view}
use Rattle.st_queries.proofs.listing.each.Given as goal

-- what was told so far
abbrev pub invariant-loop-item : goal.invariant-loop-item
invariant-loop-item g l = map view l.items ++ map (g.R.ToJson.json l.teller) (drop l.item-index l.list) ≡ map (g.R.ToJson.json l.teller) l.list
