-- What a caller has done, and how it stands in an image.
use Rattle.std.specs.Prelude.{◌≡◌, ◌⊎◌, ℕ, ◌+◌, ◌-◌, ◌%◌, ◌^◌, ◌<◌, ◌≤◌, List, [], Bool, true, false, not, Some, Result, Ok, Err, MatchBool, length, slice_get}
use Rattle.st_classes.specs.declared.values.ActorId.{ActorId}
use Rattle.st_classes.specs.declared.refusals.Refusal.{Refusal}
use Rattle.st_classes.specs.declared.refusals.Refusal.TheVariants.{HistoryFull, NoMemory}
use Rattle.st_mailbox.specs.declared.messages.Message.{Message}
use Rattle.st_turn.specs.Claims.{ClaimView}
use Rattle.st_image.specs.declared.history.Item.{Item}
use Rattle.st_image.specs.declared.history.Item.TheVariants.{Posted}
use Rattle.st_image.specs.Images.{ImageView}
use Rattle.st_image.specs.Commits.{ChecksOut, Settles}
use Rattle.st_image.specs.GoingOn.{GoesOnIn}
use Rattle.st_image.specs.Scheduling.{IsNextReady, is_free_at}
use Rattle.st_image.specs.WorldInvariant.{IsLawful}
use Rattle.st_pool.specs.declared.pool_state.working.Work.{Work}
use Rattle.st_pool.specs.declared.pool_state.working.Work.TheVariants.{Claimed, Stop, Wait}
use Rattle.st_pool.specs.declared.receipts.Receipt.{Receipt}
use Rattle.st_pool.specs.Books.{BooksView}
use Rattle.st_calls.specs.Growth.{Amounts, amounts}

-- the edits that were accepted, a receipt for each post that was, how many items of histories its checkpoints have emptied, and how many
-- calls it has made, refused ones too, modulo 2^64
pub record Done : Type 0 where
  pub edits : ℕ
  pub receipts : List Receipt
  pub emptied : ℕ
  pub calls : ℕ

abbrev pub nothing_done : Done
nothing_done = record { edits = 0; receipts = []; emptied = 0; calls = 0 }

-- one call more was made
abbrev pub one_call_more : Done → Done
one_call_more d = record d { calls = (d.calls + 1) % 2 ^ 64 }

-- what lies under the lock
pub record PoolView : Type 0 where
  pub image : ImageView
  pub books : BooksView

-- a lawful image that has counted at least as many posts and edits since it had these amounts
pub record HasAtLeast (start : Amounts) (done : Done) (i : ImageView) : Type 0 where
  pub lawful : IsLawful i
  pub posts : start.posts + length done.receipts ≤ (amounts i).posts
  pub edits : start.edits + done.edits ≤ (amounts i).edits

-- What a hold of a caller finds: an image that has at least what it has done, and that goes on from the one that was shared; and of
-- the items that were emptied at least those that its own checkpoints have emptied
pub record Finds (start : Amounts) (first : ImageView) (d : Done) (o : PoolView) : Type 0 where
  pub least : HasAtLeast start d o.image
  pub later : GoesOnIn first o.image
  pub emptied : d.emptied ≤ o.books.emptied

-- The place of a receipt counts the items that checkpoints have emptied: its item is among them, or its message stands in the
-- history at its place behind them.
abbrev pub StandsIn : ℕ → List Item → Receipt → Type 0
StandsIn emptied history r =
    (r.place < emptied) ⊎ ((emptied ≤ r.place) × (slice_get history (r.place - emptied) ≡ Some (Posted r.actor r.message)))

-- in the history of an image
abbrev pub Stands : ℕ → ImageView → Receipt → Type 0
Stands emptied i r = StandsIn emptied i.history r

abbrev pub receipt : ℕ → ActorId → Message → Receipt
receipt place actor message = record { place = place; actor = actor; message = message }

-- what a worker finds. Where it is to end, nothing has changed; nor where it is to wait, and then no actor is ready, or the next one
-- cannot be checked out; else it has a claim of the next ready actor
abbrev pub Takes : ImageView → Work ClaimView → ImageView → Type 0
Takes i Stop j = j ≡ i
Takes i (Wait moves) j =
    (j ≡ i) × (((a : ℕ) → is_free_at i a ≡ false) ⊎ ((a : ActorId) × (e : Refusal) × IsNextReady i a.0 × ChecksOut i a (Err e) j))
Takes i (Claimed c) j = (a : ActorId) × IsNextReady i a.0 × ChecksOut i a (Ok c) j

-- A worker takes more work in the hold of its commit where its claim is spent: it was committed, and memory did not run out in its
-- quantum; or it is Stale or Changed
abbrev pub takes_more : Bool → Result ℕ Refusal → Bool
takes_more starved (Ok n) = not starved
takes_more starved (Err HistoryFull) = false
takes_more starved (Err NoMemory) = false
takes_more starved (Err e) = true

-- A hold at the end of a quantum. First the claim is settled; in the image that this leaves the worker finds what is next, where it
-- takes more. Else it is to wait, and nothing else has changed
pub record CommitsAndClaims (i : ImageView) (c : ClaimView) (starved : Bool) (result : Result ℕ Refusal)
    (work : Work ClaimView) (j : ImageView) : Type 0 where
  pub between : ImageView
  pub settles : Settles i c result between
  pub next : MatchBool (takes_more starved result) (Takes between work j) ((moves : ℕ) × (work ≡ Wait moves) × (j ≡ between))
