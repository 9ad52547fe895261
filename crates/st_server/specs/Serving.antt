-- The ranges of the numbers for serving over a socket, and the totals.
use Rattle.std.specs.Prelude.{◌≡◌, ℕ, ◌≤◌, List, Option, length}
use Rattle.std.specs.Option.{IfSome}
use Rattle.st_image.specs.GoingOn.{GoesOnIn}
use Rattle.st_image.specs.Images.{ImageView, new_image}
use Rattle.st_image.specs.WorldInvariant.{IsLawful}
use Rattle.st_calls.specs.Growth.{no_amounts}
use Rattle.st_pool.specs.Done.{Done}
use Rattle.st_pool.specs.Settled.{AreCounts, AreSums, HaveStood}
use Rattle.st_pool.specs.declared.totals.Totals.{Totals}

-- 1 to 16 workers, and 1 to 1,000,000 sessions if they are counted
abbrev pub AreInRange : ℕ → Option ℕ → Type 0
AreInRange workers sessions = (1 ≤ workers) × (workers ≤ 16) × IfSome sessions (λ n. (1 ≤ n) × (n ≤ 1000000))

-- Some callers and this many workers have served a new image, and these are the totals: an image that goes on from a new one has
-- counted them since, they are the sums of what the callers and workers have done, and the callers' receipts stand in it. That the
-- callers are those of the sessions is not said; `serve_image` answers who they are.
pub record HaveServed (workers : ℕ) (t : Totals) : Type 0 where
  pub image : ImageView
  pub callers : List Done
  pub steps : List ℕ
  pub lawful : IsLawful image
  pub later : GoesOnIn (new_image record { capacity = 64; history = 1000000 }) image
  pub counts : AreCounts no_amounts image t
  pub number : length steps ≡ workers
  pub sums : AreSums t callers steps
  pub stood : HaveStood image t.posts callers
