-- What happens under the lock: a caller makes calls of the image; a worker settles claims, and is handed others; and shares are given out.
use Rattle.std.specs.Prelude.{◌≡◌, ℕ, ◌+◌, List, [], ◌∷◌, Bool, true, false, Result}
use Rattle.st_classes.specs.declared.refusals.Refusal.{Refusal}
use Rattle.st_classes.specs.declared.values.ActorId.{ActorId}
use Rattle.st_turn.specs.Claims.{ClaimView}
use Rattle.st_image.specs.Commits.{ChecksOut, Settles}
use Rattle.st_calls.specs.declared.calls.Answer.{Answer}
use Rattle.st_calls.specs.declared.calls.Call.{Call}
use Rattle.st_calls.specs.Does.{Does}
use Rattle.st_calls.specs.Growth.{committed}
use Rattle.st_image.specs.Images.{ImageView}
use Rattle.st_pool.specs.Books.{no_books}
use Rattle.st_pool.specs.Calling.{booked}
use Rattle.st_pool.specs.Done.{PoolView}

-- an event, with what was answered: the last two are shares for a caller and for a worker
pub data Event : Type 0 where
  called : Call → Result Answer Refusal → Event
  handed : ActorId → Result ClaimView Refusal → Event
  settled : ClaimView → Result ℕ Refusal → Event
  given : Event
  employed : Event

-- what an event does to the image and to the books
abbrev pub Happens : PoolView → Event → PoolView → Type 0
Happens o (called c r) p = Does o.image c r p.image × (p.books ≡ booked o r)
Happens o (handed a r) p = ChecksOut o.image a r p.image × (p.books ≡ o.books)
Happens o (settled c r) p = Settles o.image c r p.image × (p.books ≡ record o.books { steps = o.books.steps + committed r })
Happens o given p = (p.image ≡ o.image) × (p.books ≡ record o.books { callers = o.books.callers + 1 })
Happens o employed p = (p.image ≡ o.image) × (p.books ≡ record o.books { workers = o.books.workers + 1 })

-- what happens in a hold of a caller
abbrev pub of_caller : Event → Bool
of_caller (called c r) = true
of_caller e = false

-- what happens in a hold of a worker
abbrev pub of_worker : Event → Bool
of_worker (handed a r) = true
of_worker (settled c r) = true
of_worker e = false

-- whatever happens
abbrev pub any : Event → Bool
any e = true

-- events of a kind, one after the other
abbrev pub Happen : (Event → Bool) → PoolView → List Event → PoolView → Type 0
Happen kind o [] p = p ≡ o
Happen kind o (e ∷ es) p = (kind e ≡ true) × ((m : PoolView) × Happens o e m × Happen kind m es p)

-- what lies under the lock at first: the image that is shared, and new books
abbrev pub opened : ImageView → PoolView
opened first = record { image = first; books = no_books }

-- a hold is a list of events of its kind
pub record IsHold (kind : Event → Bool) (o p : PoolView) : Type 0 where
  pub events : List Event
  pub happen : Happen kind o events p

-- from the image that was shared on, events have led to what lies under the lock
abbrev pub IsRun : ImageView → PoolView → Type 0
IsRun first o = IsHold any (opened first) o
