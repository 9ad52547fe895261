-- A level of words above another.
use Rattle.std.proofs.Common.{arith, ◌≡◌, ℕ, ◌+◌, ◌*◌, ◌/◌, ◌<◌, ◌≤◌, ◌==◌, Bool, true, false, not, List, length, sym, ◌∙◌, ap, refl, inl, inr, ◌≢◌}
use Rattle.std.proofs.lemmas.Bool.{eqb-false}
use Rattle.std.proofs.lemmas.Bool.Decides.{eqb_tells}
use Rattle.st_bitset.specs.Words.{IsFirst, IsWritten, NoneFrom, NoneInWord, Summarises, bit_of, word_of}
use Rattle.st_bitset.proofs.InWords.{in_words, none_past, not_both, word_raised}

-- a raised bit's word is raised in the level above
pub raised_above : (above words : List ℕ) → Summarises above words → (b : ℕ) → bit_of words b ≡ true → bit_of above (b / 64) ≡ true
raised_above above words sums b raised = sums (b / 64) ∙ ap (λ (x : Bool). not x) (word_raised words b raised)

not_false : (b : Bool) → not b ≡ true → b ≡ false
not_false true h = cc
not_false false h = refl

-- a word that is raised in the level above is not zero
pub raised_below : (above words : List ℕ) → Summarises above words → (k : ℕ) → bit_of above k ≡ true → 0 < word_of words k
raised_below above words sums k raised =
    let differ : word_of words k ≢ 0 = eqb-false (word_of words k) 0 (not_false _ (sym (sums k) ∙ raised)) in
    omega arith

-- the first raised bit of the first raised word after that of a number
pub first_below : (above words : List ℕ) (from k a : ℕ) → Summarises above words → NoneInWord words from → IsFirst above (from / 64 + 1) k → IsFirst words (64 * k) a → IsFirst words from a
first_below above words from k a sums none up down =
    let later : from / 64 + 1 ≤ k = up.late in
    let there : 64 * k ≤ a = down.late in
    record {
      raised = down.raised;
      late = omega arith;
      first = λ b after raised. elim (eqb_tells (b / 64) (from / 64)) [
        | inl s ↦ absurd (not_both (bit_of words b) raised (none b after s.1))
        | inr s ↦
            let differ : b / 64 ≢ from / 64 = s.1 in
            let next_word : from / 64 + 1 ≤ b / 64 = omega arith in
            let word_after : k ≤ b / 64 = up.first (b / 64) next_word (raised_above above words sums b raised) in
            let bit_after : 64 * k ≤ b = omega arith in
            down.first b bit_after raised
      ];
    }

not_true : (b : Bool) → (b ≡ true → ⊥) → b ≡ false
not_true true h = absurd (h refl)
not_true false h = refl

-- no raised bit, where there is none in the word of a number and no raised word after it
pub none_below : (above words : List ℕ) (from : ℕ) → Summarises above words → NoneInWord words from → NoneFrom above (from / 64 + 1) → NoneFrom words from
none_below above words from sums none up b after = elim (eqb_tells (b / 64) (from / 64)) [
  | inl s ↦ none b after s.1
  | inr s ↦
      let differ : b / 64 ≢ from / 64 = s.1 in
      let next_word : from / 64 + 1 ≤ b / 64 = omega arith in
      not_true (bit_of words b) (λ raised. not_both (bit_of above (b / 64)) (raised_above above words sums b raised) (up (b / 64) next_word))
]

-- no raised bit in a single word
pub none_in_one : (words : List ℕ) (from : ℕ) → length words ≡ 1 → NoneInWord words from → NoneFrom words from
none_in_one words from one none b after = elim (eqb_tells (b / 64) (from / 64)) [
  | inl s ↦ none b after s.1
  | inr s ↦
      let differ : b / 64 ≢ from / 64 = s.1 in
      none_past words b (omega arith) b (omega arith) refl
]

-- the number of a raised bit below a single word
pub few_below_one : (above words : List ℕ) → Summarises above words → length above ≡ 1 → (b : ℕ) → bit_of words b ≡ true → b < 4096
few_below_one above words sums one b raised =
    let there : b / 64 / 64 < length above = in_words above (b / 64) (raised_above above words sums b raised) in
    omega arith

-- a bit written, and its word's bit in the level above
pub summary_kept : (above above_then words words_then : List ℕ) (at : ℕ) (raised : Bool) → IsWritten words words_then at raised → IsWritten above above_then (at / 64) (not (word_of words_then (at / 64) == 0)) → Summarises above words → Summarises above_then words_then
summary_kept above above_then words words_then at raised down up sums k = elim (eqb_tells k (at / 64)) [
  | inl s ↦ rw s.1 up.here
  | inr s ↦ up.others k s.1 ∙ (sums k ∙ ap (λ (w : ℕ). not (w == 0)) (sym (down.rest k s.1)))
]
