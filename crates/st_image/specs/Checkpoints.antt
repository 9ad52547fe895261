-- Checkpoints: an image begins anew with its present world, and its counts go on.
use Rattle.std.specs.Prelude.{◌≡◌, ◌↔◌, ℕ, [], Result, Ok, Err}
use Rattle.st_classes.specs.declared.values.ActorId.{ActorId}
use Rattle.st_classes.specs.declared.refusals.Refusal.{Refusal}
use Rattle.st_classes.specs.declared.refusals.Refusal.TheVariants.{Stale, Changed, NoMemory}
use Rattle.st_turn.specs.Claims.{ClaimView}
use Rattle.st_image.specs.Parts.{rebase}
use Rattle.st_image.specs.Images.{ImageView, counts_of, edits_made, world}
use Rattle.st_image.specs.WorldInvariant.{IsLawful}
use Rattle.st_image.specs.Commits.{CommitAllowed, CommitRefused, KnowsBody, body_at, changed_at}

-- What a checkpoint leaves: the present world is the base, and the history is empty. So earlier results are forgotten, the pending
-- messages are turns 1 and on, and the turn that a body is in, or has ended, is turn 0. No call site has any sends. The counts of
-- changed bodies, of the run's edits, of posts and of steps go on; all else stays.
pub record BeginsAnew (i j : ImageView) : Type 0 where
  pub image : j ≡ record i {
    base = rebase (world i);
    history = [];
    standing = record i.standing { tallies = []; earlier = j.standing.earlier };
  }
  pub changes : (a : ℕ) → changed_at j a ≡ changed_at i a
  pub edits : edits_made j ≡ edits_made i
  pub counts : counts_of j ≡ counts_of i

-- a checkpoint is made, or memory ran out and nothing changed
abbrev pub MakesCheckpoint : ImageView → Result (Unit {0}) Refusal → ImageView → Type 0
MakesCheckpoint i (Ok _) j = BeginsAnew i j
MakesCheckpoint i (Err e) j = (e ≡ NoMemory) × (j ≡ i)

-- A claim that is out at a checkpoint commits afterwards as before: its stamp still identifies its body, nothing new refuses it, and
-- Stale and Changed refuse it exactly as before.
pub record CommitsAsBefore (i j : ImageView) (c : ClaimView) : Type 0 where
  pub knows : KnowsBody i c → KnowsBody j c
  pub allowed : CommitAllowed i c → CommitAllowed j c
  pub stale : (version : ℕ) → CommitRefused i c (Stale version) ↔ CommitRefused j c (Stale version)
  pub changed : CommitRefused i c Changed ↔ CommitRefused j c Changed

-- a checkpoint changes nothing for claims that are out: neither bodies nor commits
pub record LeavesClaims : Type 0 where
  pub bodies : (i j : ImageView) (a : ActorId) → BeginsAnew i j → body_at j a ≡ body_at i a
  pub claims : (i j : ImageView) (c : ClaimView) → IsLawful i → BeginsAnew i j → CommitsAsBefore i j c
