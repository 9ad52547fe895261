use Rattle.std.proofs.Common.{◌≡◌, ◌-◌, ◌≤◌, length, option_map, slice_get}
use Rattle.std.specs.List.{filter_map, range_with_len}
use Rattle.st_image.specs.Images.{world}
use Rattle.st_queries.specs.ActorSnapshots.{actor_snapshot_of}
use Rattle.st_queries.proofs.actor_snapshots.actor_snapshots.Given as goal

-- what was seen so far
abbrev pub invariant-loop-number : goal.invariant-loop-number
invariant-loop-number g l = (l.fn.from ≤ l.number)
    × (l.seen.items ≡ filter_map (λ n. option_map actor_snapshot_of (slice_get (world l.image).actors n)) (range_with_len l.fn.from (l.number - l.fn.from)))
    × (length l.seen.items ≤ l.number - l.fn.from)
