-- BitSet as the bits of words, 64 to a word, and levels of words that say which words below have a raised bit.
use Rattle.std.specs.Prelude.{◌≡◌, ℕ, ◌*◌, ◌/◌, ◌%◌, ◌<◌, ◌≤◌, ◌==◌, Bool, true, false, not, List, map, length, slice_index_or}
use Rattle.std.specs.Int.{bit_at}
use Rattle.std.specs.List.{range_with_len}
use Rattle.std.proofs.Common.{◌≢◌}

-- the word with a number; past the end it is 0
abbrev pub word_of : List ℕ → ℕ → ℕ
word_of words k = slice_index_or words k 0

-- the bit with a number
abbrev pub bit_of : List ℕ → ℕ → Bool
bit_of words a = bit_at (word_of words (a / 64)) (a % 64) == 1

-- the first len bits of words, as a list of flags
abbrev pub flags_of : ℕ → List ℕ → List Bool
flags_of len words = map (λ a. bit_of words a) (range_with_len 0 len)

-- the lowest bit of a word that is 1, at from or above
pub record IsLowestBit (word from i : ℕ) : Type 0 where
  pub within : i < 64
  pub late : from ≤ i
  pub raised : bit_at word i ≡ 1
  pub first : (j : ℕ) → from ≤ j → j < i → bit_at word j ≡ 0

-- the first raised bit, at from or above
pub record IsFirst (words : List ℕ) (from a : ℕ) : Type 0 where
  pub raised : bit_of words a ≡ true
  pub late : from ≤ a
  pub first : (b : ℕ) → from ≤ b → bit_of words b ≡ true → a ≤ b

-- no bit is raised at from or above
abbrev pub NoneFrom : List ℕ → ℕ → Type 0
NoneFrom words from = (b : ℕ) → from ≤ b → bit_of words b ≡ false

-- no bit is raised at from or above in the same word
abbrev pub NoneInWord : List ℕ → ℕ → Type 0
NoneInWord words from = (b : ℕ) → from ≤ b → b / 64 ≡ from / 64 → bit_of words b ≡ false

-- the later words have this bit raised or lowered, and are otherwise equal
pub record IsWritten (words later : List ℕ) (at : ℕ) (raised : Bool) : Type 0 where
  pub here : bit_of later at ≡ raised
  pub others : (b : ℕ) → b ≢ at → bit_of later b ≡ bit_of words b
  pub rest : (k : ℕ) → k ≢ at / 64 → word_of later k ≡ word_of words k
  pub len : length later ≡ length words

-- a bit of the level above is raised exactly if the word with its number is not zero
abbrev pub Summarises : List ℕ → List ℕ → Type 0
Summarises above words = (k : ℕ) → bit_of above k ≡ not (word_of words k == 0)

-- three levels of words for len flags
pub record AreLevels (len : ℕ) (low mid top : List ℕ) : Type 0 where
  pub few : len ≤ 65536
  pub low_room : len ≤ 64 * length low
  pub mid_room : len ≤ 4096 * length mid
  pub one : length top ≡ 1
  pub past : NoneFrom low len
  pub above_low : Summarises mid low
  pub above_mid : Summarises top mid
