-- A call in a hold: what it does to the image, in the books, and to what its caller has done.
use Rattle.std.specs.Prelude.{◌≡◌, ◌⊎◌, ℕ, ◌+◌, List, [], ◌∷◌, ◌++◌, length, Bool, true, false, Result, Ok, Err, MatchOption, MatchResult}
use Rattle.st_classes.specs.declared.refusals.Refusal.{Refusal}
use Rattle.st_classes.specs.declared.refusals.Refusal.TheVariants.{BadCommand, NoMemory}
use Rattle.st_classes.specs.Refusals.{Rule, first_of}
use Rattle.st_classes.specs.declared.values.ActorId.{ActorId}
use Rattle.st_mailbox.specs.declared.messages.Message.{Message}
use Rattle.st_image.specs.Calls.{Posts}
use Rattle.st_image.specs.Images.{ImageView}
use Rattle.st_image.specs.declared.counts.Counts.{Counts}
use Rattle.st_image.specs.PostRules.{from_client}
use Rattle.st_calls.specs.declared.calls.Answer.{Answer}
use Rattle.st_calls.specs.declared.calls.Answer.TheVariants as answer
use Rattle.st_calls.specs.declared.calls.Call.{Call}
use Rattle.st_calls.specs.declared.calls.Call.TheVariants as call
use Rattle.st_calls.specs.Does.{Does}
use Rattle.st_calls.specs.Growth.{Amounts}
use Rattle.st_pool.specs.declared.receipts.Receipt.{Receipt}
use Rattle.st_pool.specs.Books.{BooksView}
use Rattle.st_pool.specs.Checkpointed.{checkpoint_rules}
use Rattle.st_pool.specs.Done.{Done, Finds, PoolView, one_call_more, receipt}

-- why the pool refuses a call before the image is asked
abbrev pub place_rules : PoolView → Call → List Rule
place_rules o call.Checkpoint = checkpoint_rules o
place_rules o c = []

-- calls that have a receipt
abbrev pub is_post : Call → Bool
is_post (call.Post sender seq a s args) = true
is_post c = false

-- calls of which the pool keeps nothing but what their answer tells
abbrev pub is_plain : Call → Bool
is_plain (call.Post sender seq a s args) = false
is_plain call.Checkpoint = false
is_plain c = true

-- what a call adds to the books, by its answer: a post, an edit, or the items that a checkpoint has emptied
abbrev pub booked : PoolView → Result Answer Refusal → BooksView
booked o (Err e) = o.books
booked o (Ok (answer.Position n)) = record o.books { posts = o.books.posts + 1 }
booked o (Ok (answer.Version n)) = record o.books { edits = o.books.edits + 1 }
booked o (Ok (answer.Counted n)) = record o.books { emptied = o.books.emptied + length o.image.history }
booked o (Ok told) = o.books

-- the receipt of a post: its place is where the history ended, behind all that was emptied
abbrev pub receipts_of : PoolView → Call → List Receipt
receipts_of o (call.Post sender seq a s args) = receipt (o.books.emptied + length o.image.history) a (from_client sender seq s args) ∷ []
receipts_of o c = []

-- what a caller has done then, for whom the call is counted already
abbrev pub done_by : PoolView → Call → Result Answer Refusal → Done → Done
done_by o c (Err e) d = d
done_by o c (Ok (answer.Position n)) d = record d { receipts = d.receipts ++ receipts_of o c }
done_by o c (Ok (answer.Version n)) d = record d { edits = d.edits + 1 }
done_by o c (Ok (answer.Counted n)) d = record d { emptied = d.emptied + length o.image.history }
done_by o c (Ok told) d = d

-- the image is asked; or memory for a receipt ran out before
abbrev pub Asked : PoolView → Call → Result Answer Refusal → PoolView → Type 0
Asked o c r p = ((is_post c ≡ true) × (r ≡ Err NoMemory) × (p ≡ o)) ⊎ (Does o.image c r p.image × (p.books ≡ booked o r))

-- a call in a hold, of a caller for whom it is counted already
abbrev pub MakesCounted : PoolView → Done → Call → Result Answer Refusal → PoolView → Done → Type 0
MakesCounted o d c r p e = MatchOption (first_of (place_rules o c)) (Asked o c r p) (λ f. (r ≡ Err f) × (p ≡ o))
    × (e ≡ done_by o c r d)

-- a call in a hold, which is counted whatever it answers
abbrev pub PoolCalls : PoolView → Done → Call → Result Answer Refusal → PoolView → Done → Type 0
PoolCalls o d c r p e = MakesCounted o (one_call_more d) c r p e

-- a call in a hold that finds an image with at least what its caller has done
abbrev pub CallsOnce : Amounts → ImageView → Done → Call → Result Answer Refusal → Done → Type 0
CallsOnce start first d c r e = (o : PoolView) × (p : PoolView) × Finds start first d o × PoolCalls o d c r p e

-- ---- the answers of single calls

abbrev pub version_in : Result Answer Refusal → Result ℕ Refusal
version_in (Ok (answer.Version n)) = Ok n
version_in (Ok told) = Err BadCommand
version_in (Err e) = Err e

abbrev pub position_in : Result Answer Refusal → Result ℕ Refusal
position_in (Ok (answer.Position n)) = Ok n
position_in (Ok told) = Err BadCommand
position_in (Err e) = Err e

abbrev pub created_in : Result Answer Refusal → Result ActorId Refusal
created_in (Ok (answer.Created a)) = Ok a
created_in (Ok told) = Err BadCommand
created_in (Err e) = Err e

abbrev pub closed_in : Result Answer Refusal → Result (Unit {0}) Refusal
closed_in (Ok answer.Closed) = Ok tt
closed_in (Ok told) = Err BadCommand
closed_in (Err e) = Err e

abbrev pub counts_in : Result Answer Refusal → Result Counts Refusal
counts_in (Ok (answer.Counted c)) = Ok c
counts_in (Ok told) = Err BadCommand
counts_in (Err e) = Err e

-- a message is posted in one hold, and if it is accepted its receipt goes last: its place is where the history ended in that hold,
-- behind all that was emptied. Memory may run out before
abbrev pub PostsOnce : Amounts → ImageView → Done → ActorId → Message → Result ℕ Refusal → Done → Type 0
PostsOnce start first d a m result e = ((result ≡ Err NoMemory) × (e ≡ one_call_more d))
    ⊎ ((o : PoolView) × (j : ImageView) × Finds start first d o × Posts o.image a m result j × MatchResult result
    (λ turn. e ≡ record (one_call_more d) { receipts = d.receipts ++ receipt (o.books.emptied + length o.image.history) a m ∷ [] })
    (λ f. e ≡ one_call_more d))
