-- What keeps three levels of words.
use Rattle.std.proofs.Common.{arith, ◌≡◌, ℕ, ◌+◌, ◌/◌, ◌<◌, ◌≤◌, ◌==◌, Bool, not, List, length, sym, ◌∙◌, ap, subst}
use Rattle.st_bitset.specs.Words.{AreLevels, IsWritten, flags_of, word_of}
use Rattle.st_bitset.proofs.Levels.{summary_kept}
use Rattle.st_bitset.proofs.Lists.{length-flags, same_bit}

-- a flag's number is below that of all flags
pub within : (len : ℕ) (words : List ℕ) (flags : List Bool) (at : ℕ) → flags_of len words ≡ flags → at < length flags → at < len
within len words flags at e h = omega (arith, length-flags len words, ap (λ (fs : List Bool). length fs) e, h)

-- more words of zero at the lowest level
pub low_grown : (len : ℕ) (low mid top later : List ℕ) → AreLevels len low mid top → ((k : ℕ) → word_of later k ≡ word_of low k) → length low ≤ length later → AreLevels len later mid top
low_grown len low mid top later h same more = record {
  few = h.few;
  low_room = omega (arith, h.low_room, more);
  mid_room = h.mid_room;
  one = h.one;
  past = λ b after. same_bit low later same b ∙ h.past b after;
  above_low = λ k. h.above_low k ∙ ap (λ (w : ℕ). not (w == 0)) (sym (same k));
  above_mid = h.above_mid;
}

-- more words of zero at the level in the middle
pub mid_grown : (len : ℕ) (low mid top later : List ℕ) → AreLevels len low mid top → ((k : ℕ) → word_of later k ≡ word_of mid k) → length mid ≤ length later → AreLevels len low later top
mid_grown len low mid top later h same more = record {
  few = h.few;
  low_room = h.low_room;
  mid_room = omega (arith, h.mid_room, more);
  one = h.one;
  past = h.past;
  above_low = λ k. same_bit mid later same k ∙ h.above_low k;
  above_mid = λ k. h.above_mid k ∙ ap (λ (w : ℕ). not (w == 0)) (sym (same k));
}

-- one more flag, where there is room
pub one_more : (len : ℕ) (low mid top : List ℕ) → AreLevels len low mid top → len < 65536 → len / 64 < length low → len / 64 / 64 < length mid → AreLevels (len + 1) low mid top
one_more len low mid top h few low_room mid_room = record {
  few = omega arith;
  low_room = omega arith;
  mid_room = omega arith;
  one = h.one;
  past = λ b after. h.past b (omega (arith, after));
  above_low = h.above_low;
  above_mid = h.above_mid;
}

-- a flag written, and the levels above
pub levels_written : (len : ℕ) (low mid top low_then mid_then top_then : List ℕ) (at : ℕ) (raised any_low any_mid : Bool) → AreLevels len low mid top → at < len → IsWritten low low_then at raised → any_low ≡ not (word_of low_then (at / 64) == 0) → IsWritten mid mid_then (at / 64) any_low → any_mid ≡ not (word_of mid_then (at / 64 / 64) == 0) → IsWritten top top_then (at / 64 / 64) any_mid → AreLevels len low_then mid_then top_then
levels_written len low mid top low_then mid_then top_then at raised any_low any_mid h inside w_low is_low w_mid is_mid w_top = record {
  few = h.few;
  low_room = omega (arith, h.low_room, w_low.len);
  mid_room = omega (arith, h.mid_room, w_mid.len);
  one = w_top.len ∙ h.one;
  past = λ b after. w_low.others b (λ e. omega (arith, e, after, inside)) ∙ h.past b after;
  above_low = summary_kept mid mid_then low low_then at raised w_low (subst (λ (r : Bool). IsWritten mid mid_then (at / 64) r) is_low w_mid) h.above_low;
  above_mid = summary_kept top top_then mid mid_then (at / 64) any_low w_mid (subst (λ (r : Bool). IsWritten top top_then (at / 64 / 64) r) is_mid w_top) h.above_mid;
}
