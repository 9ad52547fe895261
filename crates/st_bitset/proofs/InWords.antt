-- Bits by their numbers in words.
use Rattle.std.proofs.Common.{arith, ◌≡◌, ℕ, ◌/◌, ◌%◌, ◌<◌, ◌≤◌, ◌==◌, Bool, true, false, List, length, sym, ◌∙◌, ap, inl, inr}
use Rattle.std.specs.Int.{bit_at}
use Rattle.std.proofs.lemmas.Bool.Decides.{eqb_tells, leb_tells}
use Rattle.std.proofs.lemmas.List.{get_or_past}
use Rattle.std.proofs.lemmas.Nat.Bits.{bit_at-zero}
use Rattle.st_bitset.specs.Words.{NoneInWord, bit_of, word_of}

-- a bit of a word that is zero
pub no_bit : (words : List ℕ) (b : ℕ) → word_of words (b / 64) ≡ 0 → bit_of words b ≡ false
no_bit words b e = ap (λ (w : ℕ). bit_at w (b % 64) == 1) e ∙ ap (λ (x : ℕ). x == 1) (bit_at-zero (b % 64))

pub not_both : (b : Bool) → b ≡ true → b ≡ false → ⊥
not_both b h n = let e : true ≡ false = sym h ∙ n in cc

-- a word with a raised bit is not zero
pub word_raised : (words : List ℕ) (b : ℕ) → bit_of words b ≡ true → (word_of words (b / 64) == 0) ≡ false
word_raised words b raised = elim (eqb_tells (word_of words (b / 64)) 0) [
  | inl w ↦ absurd (not_both (bit_of words b) raised (no_bit words b w.1))
  | inr w ↦ w.0
]

-- a raised bit stands in the words
pub in_words : (words : List ℕ) (b : ℕ) → bit_of words b ≡ true → b / 64 < length words
in_words words b raised = elim (leb_tells (length words) (b / 64)) [
  | inl w ↦ absurd (not_both (bit_of words b) raised (no_bit words b (get_or_past words (b / 64) 0 w.1)))
  | inr w ↦ w.1
]

-- no bit past the words
pub none_past : (words : List ℕ) (from : ℕ) → length words ≤ from / 64 → NoneInWord words from
none_past words from past b after same = no_bit words b (get_or_past words (b / 64) 0 (omega (arith, past, same)))
