-- What a schedule of events sees: an image, and the claim of each worker.
use Rattle.std.specs.Prelude.{ℕ, List, Option, map}
use Rattle.std.specs.Option.{option_map}
use Rattle.st_classes.specs.declared.values.ActorId.{ActorId}
use Rattle.st_classes.specs.declared.edits.Edit.{Edit}
use Rattle.st_turn.specs.declared.body.Body.{Body}
use Rattle.st_turn.specs.declared.claim.Sent.{Sent}
use Rattle.st_turn.specs.Claims.{ClaimView}
use Rattle.st_image.specs.Images.{ImageView}
use Rattle.st_system.specs.SystemWorkers.{SystemView, WorkerView}

-- a claim without its sends and its stamp: the steps of an actor at the edits of a class table, and the bodies before and after them
pub record BareClaim : Type 0 where
  pub actor : ActorId
  pub edits : List Edit
  pub before : Body
  pub after : Body
  pub steps : ℕ

-- what a schedule sees of a claim
abbrev pub bare : ClaimView → BareClaim
bare c = record { actor = c.actor; edits = c.edits; before = c.before; after = c.after; steps = c.steps }

-- a claim with these sends and this stamp
abbrev pub with_sends : BareClaim → List Sent → ℕ → ClaimView
with_sends c sends stamp = record {
  actor = c.actor;
  edits = c.edits;
  before = c.before;
  after = c.after;
  steps = c.steps;
  sends = sends;
  stamp = stamp;
}

-- the state of a schedule: the image, and each worker's claim, or none
pub record Schedule : Type 0 where
  pub image : ImageView
  pub claims : List (Option BareClaim)

-- what a schedule sees of a worker
abbrev pub claim_of : {G : Type 0} → WorkerView G → Option BareClaim
claim_of s = option_map bare s.claim

-- what a schedule sees of a system
abbrev pub schedule : {G : Type 0} → SystemView G → Schedule
schedule s = record { image = s.image; claims = map claim_of s.workers }
