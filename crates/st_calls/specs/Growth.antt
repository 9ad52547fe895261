-- How much more an image has counted in another.
use Rattle.std.specs.Prelude.{◌≡◌, ℕ, ◌+◌, Bool, Result, Ok, Err, length, if◌then◌else◌}
use Rattle.st_classes.specs.declared.refusals.Refusal.{Refusal}
use Rattle.st_image.specs.Images.{ImageView, counts_of, world}
use Rattle.st_calls.specs.declared.calls.Answer.{Answer}
use Rattle.st_calls.specs.declared.calls.Answer.TheVariants.{Position, Version}

-- posts, edits and steps
pub record Amounts : Type 0 where
  pub posts : ℕ
  pub edits : ℕ
  pub steps : ℕ

-- the posts and the steps that an image has counted, over checkpoints, and the edits of its class table
abbrev pub amounts : ImageView → Amounts
amounts i = record { posts = (counts_of i).posts; edits = length (world i).edits; steps = (counts_of i).steps }

-- nothing was counted
abbrev pub no_amounts : Amounts
no_amounts = record { posts = 0; edits = 0; steps = 0 }

-- an image has counted this many posts, edits and steps more than another
pub record Grows (posts edits steps : ℕ) (i j : ImageView) : Type 0 where
  pub more_posts : (amounts j).posts ≡ (amounts i).posts + posts
  pub more_edits : (amounts j).edits ≡ (amounts i).edits + edits
  pub more_steps : (amounts j).steps ≡ (amounts i).steps + steps

-- what was done counts once
abbrev pub counted : Bool → ℕ
counted done = if done then 1 else 0

-- an answer that is the place of a message is that of a post
abbrev pub posts_by : Result Answer Refusal → ℕ
posts_by (Ok (Position n)) = 1
posts_by r = 0

-- an answer that is a version is that of an edit
abbrev pub edits_by : Result Answer Refusal → ℕ
edits_by (Ok (Version n)) = 1
edits_by r = 0

-- the steps that were committed
abbrev pub committed : Result ℕ Refusal → ℕ
committed (Ok n) = n
committed (Err e) = 0
