-- The bits of words as a list of flags.
use Rattle.std.proofs.Common.{arith, ◌≡◌, ℕ, ◌+◌, ◌/◌, ◌%◌, ◌<◌, ◌==◌, ◌++◌, [], ◌∷◌, Bool, false, List, length, sym, ◌∙◌, ap, inl, inr}
use Rattle.std.specs.Int.{bit_at}
use Rattle.std.proofs.Math.ListN.{set}
use Rattle.std.proofs.lemmas.Bool.Decides.{eqb_tells, leb_tells}
use Rattle.std.proofs.lemmas.List.{get_or_past, get_or-set_same, get_or-set_other, length-set}
use Rattle.std.proofs.lemmas.List.FromFn.{fill_by_all, get_or-map-range_with_len, length-map-range_with_len, map-range_with_len_more}
use Rattle.st_bitset.specs.BitSet.{is_raised}
use Rattle.st_bitset.specs.Words.{IsWritten, NoneFrom, bit_of, flags_of, word_of}

-- there are as many flags as were asked for
pub length-flags : (len : ℕ) (words : List ℕ) → length (flags_of len words) ≡ len
length-flags len words = length-map-range_with_len (λ a. bit_of words a) 0 len

-- a flag is its bit
pub raised_is : (len : ℕ) (words : List ℕ) → NoneFrom words len → (a : ℕ) → is_raised (flags_of len words) a ≡ bit_of words a
raised_is len words past a = elim (leb_tells len a) [
  | inl w ↦ get_or_past (flags_of len words) a false (omega (arith, length-flags len words, w.1)) ∙ sym (past a w.1)
  | inr w ↦ get_or-map-range_with_len (λ b. bit_of words b) 0 len a a false w.1 (omega arith)
]

-- the same words have the same bits
pub same_bit : (words later : List ℕ) → ((k : ℕ) → word_of later k ≡ word_of words k) → (a : ℕ) → bit_of later a ≡ bit_of words a
same_bit words later same a = ap (λ (w : ℕ). bit_at w (a % 64) == 1) (same (a / 64))

-- the same words are the same flags
pub same_flags : (len : ℕ) (words later : List ℕ) → ((k : ℕ) → word_of later k ≡ word_of words k) → flags_of len later ≡ flags_of len words
same_flags len words later same =
    sym (fill_by_all (λ a. bit_of later a) (flags_of len words) len false (length-flags len words) (λ k below.
    get_or-map-range_with_len (λ b. bit_of words b) 0 len k k false below (omega arith) ∙ sym (same_bit words later same k)))

-- one more flag
pub flags_more : (len : ℕ) (words : List ℕ) → bit_of words len ≡ false → flags_of (len + 1) words ≡ flags_of len words ++ false ∷ []
flags_more len words none =
    map-range_with_len_more (λ a. bit_of words a) 0 len len (omega arith) ∙ ap (λ (b : Bool). flags_of len words ++ b ∷ []) none

-- a flag written
pub flags_written : (len : ℕ) (words later : List ℕ) (at : ℕ) (raised : Bool) → at < len → IsWritten words later at raised → flags_of len later ≡ set (flags_of len words) at raised
flags_written len words later at raised within written =
    sym (fill_by_all (λ a. bit_of later a) (set (flags_of len words) at raised) len false (length-set (flags_of len words) at raised ∙ length-flags len words) (λ k below. elim (eqb_tells k at) [
      | inl s ↦ rw s.1 (get_or-set_same (flags_of len words) at raised false (omega (arith, length-flags len words)) ∙ sym written.here)
      | inr s ↦ get_or-set_other (flags_of len words) at k raised false s.1 ∙ (get_or-map-range_with_len (λ b. bit_of words b) 0 len k k false below (omega arith) ∙ sym (written.others k s.1))
    ]))
