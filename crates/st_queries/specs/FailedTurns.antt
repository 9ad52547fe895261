-- The turns that ended with a fault, of which an image keeps the newest 64 since its base.
use Rattle.std.specs.Prelude.{ℕ, ◌-◌, List, length, codes, max, Option, Some, None, nat_lt, slice_get, if◌then◌else◌}
use Rattle.std.specs.List.{filter_map}
use Rattle.serde_json.specs.Data.{Data, string, object, member, no_members}
use Rattle.st_image.specs.Failures.{Failure, failures_of}
use Rattle.st_image.specs.Images.{ImageView}
use Rattle.st_image.specs.NewestResults.{newest}
use Rattle.st_wire.specs.Names.{fault_name}
use Rattle.st_wire.specs.Replies.{whole}
use Rattle.st_file.specs.ListJson.{each}
use Rattle.st_queries.specs.declared.failed_turns.FailedTurn.{FailedTurn}
use Rattle.st_queries.specs.declared.failed_turns.FailedSince.{FailedSince}

-- a turn that failed, without the body that it had
abbrev pub failed_turn : Failure → FailedTurn
failed_turn f = record { actor = f.actor; fault = f.fault; step = f.step; turn = f.turn }

-- the steps before a failure
abbrev pub steps_before : Option Failure → ℕ
steps_before None = 0
steps_before (Some f) = f.step - 1

-- the steps up to which failures are no longer kept: where there were more than 64, those before the oldest that is
abbrev pub lost_until : List Failure → ℕ
lost_until fs = if nat_lt 64 (length fs) then steps_before (slice_get (newest fs) 0) else 0

-- the steps behind which every failure is told, where those behind so many are asked for: none is known up to the base
abbrev pub told_from : ImageView → ℕ → ℕ
told_from i after = max after (max i.standing.earlier.steps (lost_until (failures_of i)))

-- a failure, if it is behind so many steps
abbrev pub if_behind : ℕ → Failure → Option FailedTurn
if_behind from f = if nat_lt from f.step then Some (failed_turn f) else None

-- the failures behind so many steps, the oldest first
abbrev pub failed_behind : ℕ → List Failure → List FailedTurn
failed_behind from = filter_map (if_behind from)

-- what is kept of them where those behind so many steps are asked for
abbrev pub failed_since : ImageView → ℕ → FailedSince
failed_since i after = record { from = told_from i after; turns = failed_behind (told_from i after) (newest (failures_of i)) }

abbrev pub failed_told : FailedTurn → Data
failed_told f = object
    (member (codes "actor") (whole f.actor.0)
    (member (codes "fault") (string (fault_name f.fault))
    (member (codes "step") (whole f.step)
    (member (codes "turn") (whole f.turn)
    no_members))))

-- the turns that failed, the steps behind which they are all told, and the steps that were taken by now
abbrev pub faults_told : FailedSince → ℕ → Data
faults_told s steps = object
    (member (codes "faults") (each failed_told s.turns)
    (member (codes "from") (whole s.from)
    (member (codes "steps") (whole steps)
    no_members)))
