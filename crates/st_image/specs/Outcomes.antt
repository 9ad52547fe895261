-- How a turn ended.
use Rattle.std.specs.Prelude.{ℕ, ◌+◌, ◌-◌, List, length, Option, Some, None, Result, Err, nat_lt, slice_get, if◌then◌else◌}
use Rattle.st_classes.specs.declared.values.ActorId.{ActorId}
use Rattle.st_classes.specs.declared.refusals.Refusal.{Refusal}
use Rattle.st_classes.specs.declared.refusals.Refusal.TheVariants.{UnknownActor, Expired}
use Rattle.st_turn.specs.declared.body.Outcome.{Outcome}
use Rattle.st_image.specs.NewestResults.{or_pending}
use Rattle.st_image.specs.Worlds.{WorldActor}
use Rattle.st_image.specs.Images.{ImageView, world}
use Rattle.st_image.specs.WorldInvariant.{first_turn}

-- the outcome of a turn; `first` is the number of the turn that had the first result. Only the newest 64 results are kept, and a turn
-- that has no result yet has not ended
abbrev pub outcome_in : ℕ → List Outcome → ℕ → Result Outcome Refusal
outcome_in first results turn =
    if nat_lt turn first then Err Expired
    else if nat_lt (turn - first + 64) (length results) then Err Expired
    else or_pending (slice_get results (turn - first))

-- the outcome of an actor's turn
abbrev pub outcome_at : ℕ → Option WorldActor → ℕ → Result Outcome Refusal
outcome_at first None turn = Err UnknownActor
outcome_at first (Some b) turn = outcome_in first b.results turn

-- the outcome of a turn in an image
abbrev pub image_outcome : ImageView → ActorId → ℕ → Result Outcome Refusal
image_outcome i a turn = outcome_at (first_turn (slice_get i.base.actors a.0)) (slice_get (world i).actors a.0) turn
