use Rattle.std.proofs.Common.{◌≡◌, ◌-◌, ◌≤◌, map}
use Rattle.std.specs.List.{filter_map, range_with_len}
use Rattle.serde_json.specs.View.{view}
use Rattle.st_queries.proofs.listing.list.Given as goal

-- the rows so far
abbrev pub invariant-loop-number : goal.invariant-loop-number
invariant-loop-number g l = (l.fn.from ≤ l.number) × (map view l.items ≡ filter_map (g.R.Rows.row_of l.rows) (range_with_len l.fn.from (l.number - l.fn.from)))
