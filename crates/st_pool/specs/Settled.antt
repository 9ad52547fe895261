-- What settling answers.
use Rattle.std.specs.Prelude.{◌≡◌, ℕ, ◌+◌, ◌-◌, ◌≤◌, List, All, count_by, length, nat_lt}
use Rattle.std.specs.List.{sum_by}
use Rattle.st_image.specs.Counts.{posts_of, weigh}
use Rattle.st_image.specs.Images.{ImageView}
use Rattle.st_calls.specs.Growth.{Amounts, amounts}
use Rattle.st_pool.specs.Books.{BooksView}
use Rattle.st_pool.specs.Done.{Done, Stands}
use Rattle.st_pool.specs.declared.receipts.Receipt.{Receipt}
use Rattle.st_pool.specs.declared.totals.Totals.{Totals}

-- all shares that were given out are here
abbrev pub AreAll : BooksView → List Done → List ℕ → Type 0
AreAll b callers workers = (length callers ≡ b.callers) × (length workers ≡ b.workers)

-- each message of each receipt stands in the history at its place, or its item was emptied
abbrev pub AllStand : ℕ → ImageView → List Done → Type 0
AllStand emptied i callers = All (λ (d : Done). All (Stands emptied i) d.receipts) callers

-- how many receipts of a caller have their items among this many that were emptied
abbrev pub gone : ℕ → Done → ℕ
gone emptied d = count_by (λ (r : Receipt). nat_lt r.place emptied) d.receipts

-- the receipts whose items were emptied are no more than the posts that were counted and are not in the history
abbrev pub AreFew : ℕ → ImageView → ℕ → List Done → Type 0
AreFew emptied i posts callers = sum_by (gone emptied) callers ≤ posts - weigh posts_of i.history

-- how many items of histories the checkpoints of callers have emptied
abbrev pub emptied_by : List Done → ℕ
emptied_by callers = sum_by (λ (d : Done). d.emptied) callers

-- Of this many posts that were counted, those in the history stand there: each message of each receipt stands at its place, but for
-- those whose items the checkpoints of these callers have emptied, and these are few. Where none of them made a checkpoint, all stand.
pub record HaveStood (i : ImageView) (posts : ℕ) (callers : List Done) : Type 0 where
  pub stand : AllStand (emptied_by callers) i callers
  pub few : AreFew (emptied_by callers) i posts callers

-- the totals are the sums of the shares
pub record AreSums (t : Totals) (callers : List Done) (workers : List ℕ) : Type 0 where
  pub of_posts : t.posts ≡ sum_by (λ (d : Done). length d.receipts) callers
  pub of_edits : t.edits ≡ sum_by (λ (d : Done). d.edits) callers
  pub of_steps : t.steps ≡ sum_by (λ (n : ℕ). n) workers

-- the totals are what the image has counted since it had these amounts
pub record AreCounts (start : Amounts) (i : ImageView) (t : Totals) : Type 0 where
  pub in_posts : start.posts + t.posts ≡ (amounts i).posts
  pub in_edits : start.edits + t.edits ≡ (amounts i).edits
  pub in_steps : start.steps + t.steps ≡ (amounts i).steps
