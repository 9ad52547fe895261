-- What is seen of actors in a moment, apart from their bodies.
use Rattle.std.specs.Prelude.{ℕ, ◌-◌, List, length, min, option_map, slice_get}
use Rattle.std.specs.List.{filter_map, range_with_len}
use Rattle.st_turn.specs.declared.body.Phase.{Phase}
use Rattle.st_turn.specs.declared.body.Phase.TheVariants as phase
use Rattle.st_image.specs.Worlds.{WorldActor}
use Rattle.st_queries.specs.declared.actor_snapshots.ActorSnapshot.{ActorSnapshot}
use Rattle.st_queries.specs.declared.actor_snapshots.Stand.{Stand}
use Rattle.st_queries.specs.declared.actor_snapshots.Stand.TheVariants.{Fresh, Started, Running, Ended}

-- where a turn stands
abbrev pub stand_of : Phase → Stand
stand_of phase.Fresh = Fresh
stand_of (phase.Start s args) = Started
stand_of (phase.Frames fs) = Running fs.running.method
stand_of (phase.Done outcome) = Ended outcome

-- what is seen of an actor
abbrev pub actor_snapshot_of : WorldActor → ActorSnapshot
actor_snapshot_of b = record {
  accepted = length b.accepted;
  begun = length b.begun;
  class = b.class;
  is_open = b.is_open;
  stand = stand_of b.body.phase;
}

-- how many numbers there are from a first one on, below an end, and no more than the most
abbrev pub so_many : ℕ → ℕ → ℕ → ℕ
so_many from most end = min most (end - from)

-- what is seen of the actors from a number on, of this many at most
abbrev pub actor_snapshots_from : ℕ → ℕ → List WorldActor → List ActorSnapshot
actor_snapshots_from from most actors =
    filter_map (λ n. option_map actor_snapshot_of (slice_get actors n)) (range_with_len from (so_many from most (length actors)))
