-- BitSet by number, and which raised one is next.
use Rattle.std.specs.Prelude.{◌≡◌, ℕ, ◌&&◌, ◌||◌, Bool, true, false, List, nat_le, slice_index_or, if◌then◌else◌}

-- the flag with a number; past the end no flag is raised
abbrev pub is_raised : List Bool → ℕ → Bool
is_raised flags a = slice_index_or flags a false

-- a comes no later than b in the cyclic order that starts at from: first the numbers from there on, then the others,
-- each part in increasing order
abbrev pub is_no_later : ℕ → ℕ → ℕ → Bool
is_no_later from a b = if nat_le from b then nat_le from a && nat_le a b else nat_le from a || nat_le a b

-- a is raised, and no raised flag comes before it
pub record IsNext (flags : List Bool) (from a : ℕ) : Type 0 where
  pub raised : is_raised flags a ≡ true
  pub first : (b : ℕ) → is_raised flags b ≡ true → is_no_later from a b ≡ true
