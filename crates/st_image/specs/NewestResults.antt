-- The newest results of an actor: as many as can be asked for.
use Rattle.std.specs.Prelude.{◌≡◌, ◌⊎◌, ◌<◌, ℕ, ◌+◌, ◌-◌, List, [], ◌∷◌, ◌++◌, length, drop, Option, Some, None, Result, Ok, Err, nat_lt, slice_get, if◌then◌else◌}
use Rattle.st_classes.specs.declared.refusals.Refusal.{Refusal}
use Rattle.st_classes.specs.declared.refusals.Refusal.TheVariants.{Pending, Expired}
use Rattle.st_turn.specs.declared.body.Outcome.{Outcome}
use Rattle.st_turn.specs.declared.body.Phase.{Phase}
use Rattle.st_turn.specs.declared.body.Phase.TheVariants.{Fresh, Start, Frames, Done}

-- the newest 64
abbrev pub newest : {X : Type 0} → List X → List X
newest xs = drop (length xs - 64) xs

-- the newest ones, how many there were in all, and how many there is room for
pub record Newest (X : Type 0) : Type 0 where
  pub items : List X
  pub count : ℕ
  pub room : ℕ

-- there is room for one more, or all 64 places are there and the oldest goes
abbrev pub HasRoom : {X : Type 0} → Newest X → Type 0
HasRoom n = (length n.items < n.room) ⊎ (n.room ≡ 64)

-- what is kept of results: the newest, and how many there were
pub record Kept : Type 0 where
  pub items : List Outcome
  pub count : ℕ

-- what a buffer of results keeps
abbrev pub kept_in : Newest Outcome → Kept
kept_in n = record { items = n.items; count = n.count }

-- what is kept of all results
abbrev pub kept_of : List Outcome → Kept
kept_of results = record { items = newest results; count = length results }

-- a turn that is done adds how it ended
abbrev pub kept_with : Phase → Kept → Kept
kept_with Fresh k = k
kept_with (Start s args) k = k
kept_with (Frames fs) k = k
kept_with (Done outcome) k = record { items = newest (k.items ++ outcome ∷ []); count = k.count + 1 }

-- a result that has not come yet is pending
abbrev pub or_pending : Option Outcome → Result Outcome Refusal
or_pending None = Err Pending
or_pending (Some outcome) = Ok outcome

-- the result with a number, from 0, in what is kept
abbrev pub kept_result : Kept → ℕ → Result Outcome Refusal
kept_result k n = if nat_lt (n + 64) k.count then Err Expired else or_pending (slice_get k.items (n - (k.count - 64)))

-- the outcome of a turn in what is kept; `first` is the number of the turn that had the first result
abbrev pub kept_outcome : ℕ → Kept → ℕ → Result Outcome Refusal
kept_outcome first k turn = if nat_lt turn first then Err Expired else kept_result k (turn - first)
