-- Which actor is next.
use Rattle.std.specs.Prelude.{◌≡◌, ℕ, ◌==◌, ◌&&◌, ◌||◌, length, Bool, true, false, not, Option, Some, None, slice_get}
use Rattle.st_turn.specs.Idle.{is_idle}
use Rattle.st_bitset.specs.BitSet.{is_no_later}
use Rattle.st_image.specs.Worlds.{World, WorldActor, pending}
use Rattle.st_image.specs.ClaimsOut.{claims_of}
use Rattle.st_image.specs.Images.{ImageView, world}

-- an actor is in a turn, or has a message pending
abbrev pub is_ready : WorldActor → Bool
is_ready b = not (is_idle b.body.phase) || not (length (pending b) == 0)

-- the actor with this number exists and is ready
abbrev pub is_ready_at : World → ℕ → Bool
is_ready_at w a = ready_being (slice_get w.actors a)
  where
    ready_being : Option WorldActor → Bool
    ready_being None = false
    ready_being (Some b) = is_ready b

-- an actor may be checked out next: it is ready, and no claim of it is out
abbrev pub is_free_at : ImageView → ℕ → Bool
is_free_at i a = is_ready_at (world i) a && (claims_of i.standing.claims_out a == 0)

-- a free actor that comes no later than any other free one, counted from the number that is kept
pub record IsNextReady (i : ImageView) (a : ℕ) : Type 0 where
  pub free : is_free_at i a ≡ true
  pub first : (b : ℕ) → is_free_at i b ≡ true → is_no_later i.standing.next_from a b ≡ true
