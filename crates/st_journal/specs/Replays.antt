-- The beginning of a text of lines, done again.
use Rattle.std.specs.Prelude.{◌≡◌, ◌≤◌, ◌⊎◌, ℕ, List, length, slice_get, take, Option, Some, None}
use Rattle.st_classes.specs.declared.values.ActorId.{ActorId}
use Rattle.st_image.specs.Images.{ImageView}
use Rattle.st_journal.specs.declared.entries.Entry.{Entry}
use Rattle.st_journal.specs.declared.entries.Entry.TheVariants.{Ran}
use Rattle.st_journal.specs.Entries.{Leads}
use Rattle.st_journal.specs.EntryTexts.{ReadsAll, SaysAt}

-- a line says an entry, which was done; or it lies behind, and nothing was done
abbrev pub DoesOrLeaves : ImageView → List ℕ → Option Entry → ImageView → Type 0
DoesOrLeaves i line None j = (e : Entry) × SaysAt i line e × Leads i e j
DoesOrLeaves i line (Some e) j = SaysAt i line e × (j ≡ i)

-- the line at a place says an entry at an image; or there is no such line
abbrev pub NextSays : ImageView → List (List ℕ) → ℕ → Option Entry → Type 0
NextSays i lines place (Some e) = (line : List ℕ) × (slice_get lines place ≡ Some line) × SaysAt i line e
NextSays i lines place None = place ≡ length lines

-- the first lines of a text were done, and this is the entry of the line behind them
pub record StandsAt (i : ImageView) (lines : List (List ℕ)) (done : ℕ) (next : Option Entry) (j : ImageView) : Type 0 where
  pub entries : List Entry
  pub reads : ReadsAll i (take done lines) entries j
  pub behind : NextSays j lines done next

-- nothing was done; or some first steps of those that an entry tells were taken, or all of them
abbrev pub TakesSome : ImageView → Option Entry → ImageView → Type 0
TakesSome i next j = (j ≡ i)
    ⊎ ((actor : ActorId) × (steps : ℕ) × (taken : ℕ) × (next ≡ Some (Ran actor steps)) × (taken ≤ steps) × Leads i (Ran actor taken) j)

-- the first lines of a text were done, and perhaps some first steps of the line behind them
abbrev pub Replays : ImageView → List (List ℕ) → ℕ → ImageView → Type 0
Replays i lines done k = (j : ImageView) × (next : Option Entry) × StandsAt i lines done next j × TakesSome j next k
