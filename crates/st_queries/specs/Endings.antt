-- How a turn ended, and what is kept of it.
use Rattle.std.specs.Prelude.{ℕ, ◌&&◌, ◌==◌, Bool, Option, Some, None, Result, find}
use Rattle.st_classes.specs.declared.values.ActorId.{ActorId}
use Rattle.st_classes.specs.declared.refusals.Refusal.{Refusal}
use Rattle.st_turn.specs.declared.body.Outcome.{Outcome}
use Rattle.st_image.specs.Failures.{Failure, failures_of}
use Rattle.st_image.specs.Images.{ImageView}
use Rattle.st_image.specs.NewestResults.{newest}
use Rattle.st_image.specs.Outcomes.{image_outcome}
use Rattle.st_queries.specs.declared.endings.Ending.{Ending}
use Rattle.st_queries.specs.declared.endings.Ending.TheVariants.{Failed, Known}

-- a failure is that of an actor's turn
abbrev pub is_of : ActorId → ℕ → Failure → Bool
is_of a turn f = (f.actor.0 == a.0) && (f.turn == turn)

-- the kept failure of an actor's turn
abbrev pub failure_of : ImageView → ActorId → ℕ → Option Failure
failure_of i a turn = find (is_of a turn) (newest (failures_of i))

-- by the failure, or else by the outcome
abbrev pub ending_by : Result Outcome Refusal → Option Failure → Ending
ending_by outcome None = Known outcome
ending_by outcome (Some f) = Failed (record { body = f.body; fault = f.fault; step = f.step })

-- how an actor's turn ended: by its failure, if that is kept
abbrev pub ending_of : ImageView → ActorId → ℕ → Ending
ending_of i a turn = ending_by (image_outcome i a turn) (failure_of i a turn)
