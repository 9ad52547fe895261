-- A claim counts only on the body that it began with, and by steps of the present class table.
use Rattle.std.specs.Prelude.{◌≡◌, ◌≢◌, ℕ, false, Option, None, Some, Result, Ok, Err}
use Rattle.st_classes.specs.declared.refusals.Refusal.{Refusal}
use Rattle.st_classes.specs.declared.refusals.Refusal.TheVariants.{Changed}
use Rattle.st_turn.specs.Claims.{ClaimView, IsSound}
use Rattle.st_turn.specs.Surviving.{SameSteps}
use Rattle.st_image.specs.Images.{ImageView, world}
use Rattle.st_image.specs.WorldInvariant.{IsLawful}
use Rattle.st_image.specs.Commits.{Commits, IsReleased, Survives, body_at, stands_before_act}

-- a claim is refused as one on another body: it is spent, and nothing changes except that it is no longer out
abbrev pub IsLost : ImageView → ClaimView → Result ℕ (Refusal × Option ClaimView) → ImageView → Type 0
IsLost i c result j = (result ≡ Err (Changed, None)) × IsReleased i c.actor j

-- A commit that is not refused found its actor with the body with which the claim began. If no step of the image follows the claim's
-- steps, it leaves the body to which these lead. A claim that survives has taken steps of the present class table, though it took them
-- at an earlier one; if its actor has another body, it is lost. So of two claims on one body only one counts, if it changed the body:
-- the other is lost, or stale before that.
pub record CountsOnItsBody : Type 0 where
  pub before : (i j : ImageView) (c : ClaimView) (n : ℕ) → Commits i c (Ok n) j → body_at i c.actor ≡ Some c.before
  pub after : (i j : ImageView) (c : ClaimView) (n : ℕ) →
      IsLawful i → IsLawful j → IsSound c.actor c.edits c.before c.after c.steps c.sends →
      Commits i c (Ok n) j → stands_before_act c ≡ false → body_at j c.actor ≡ Some c.after
  pub lost : (i j : ImageView) (c : ClaimView) (result : Result ℕ (Refusal × Option ClaimView)) →
      Survives i c → body_at i c.actor ≢ Some c.before → Commits i c result j → IsLost i c result j
  pub second : (i j k : ImageView) (c d : ClaimView) (n : ℕ) (result : Result ℕ (Refusal × Option ClaimView)) →
      IsLawful i → IsLawful j → Commits i c (Ok n) j → body_at j c.actor ≢ body_at i c.actor →
      d.actor ≡ c.actor → d.before ≡ c.before → Survives i d → Commits j d result k → IsLost j d result k
  pub present : (i : ImageView) (c : ClaimView) →
      IsLawful i → IsSound c.actor c.edits c.before c.after c.steps c.sends → Survives i c →
      SameSteps (world i).edits c
