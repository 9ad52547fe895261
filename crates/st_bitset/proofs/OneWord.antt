-- The bits of one word.
use Rattle.std.proofs.Common.{arith, ◌≡◌, ℕ, ◌-◌, ◌*◌, ◌%◌, ◌^◌, ◌<◌, ◌≤◌, min, bit_and, sym, ◌∙◌, ap, inl, inr, w64}
use Rattle.std.specs.Int.{bit_at, trailing_zeros}
use Rattle.std.proofs.lemmas.Bool.Decides.{leb_tells}
use Rattle.std.proofs.lemmas.Nat.Bits.{bit_at_and, bit_at-lt, bit_at-zero, bit_at_mask_below, bit_at_mask_inside, bit_at-trailing_zeros, ones_shl}
use Rattle.st_bitset.specs.Words.{IsLowestBit}

min_one : (a : ℕ) → a < 2 → min a 1 ≡ a
min_one a h = omega arith

min_zero : (a : ℕ) → min a 0 ≡ 0
min_zero a = omega arith

-- the bits from a place on are those of the word
kept_bits : (word k i : ℕ) → k < 64 → k ≤ i → i < 64 → bit_at (bit_and word ((2 ^ 64 - 1) * 2 ^ k % 2 ^ 64)) i ≡ bit_at word i
kept_bits word k i within late below =
    bit_at_and word _ i ∙ (ap (λ (m : ℕ). min (bit_at word i) (bit_at m i)) (ones_shl 64 k (omega arith)) ∙ (ap (λ (x : ℕ). min (bit_at word i) x) (bit_at_mask_inside k 64 i late below) ∙ min_one _ (bit_at-lt word i)))

-- those below it are zero
lost_bits : (word k i : ℕ) → k < 64 → i < k → bit_at (bit_and word ((2 ^ 64 - 1) * 2 ^ k % 2 ^ 64)) i ≡ 0
lost_bits word k i within below =
    bit_at_and word _ i ∙ (ap (λ (m : ℕ). min (bit_at word i) (bit_at m i)) (ones_shl 64 k (omega arith)) ∙ (ap (λ (x : ℕ). min (bit_at word i) x) (bit_at_mask_below k 64 i below) ∙ min_zero _))

-- where no bit is kept, the word has none from the place on
pub none_kept : (word k rest : ℕ) → k < 64 → rest ≡ bit_and word ((2 ^ 64 - 1) * 2 ^ k % 2 ^ 64) → rest ≡ 0 → (j : ℕ) → k ≤ j → j < 64 → bit_at word j ≡ 0
none_kept word k rest within is none j late below =
    sym (kept_bits word k j within late below) ∙ (ap (λ (r : ℕ). bit_at r j) (sym is ∙ none) ∙ bit_at-zero j)

late_kept : (word k i : ℕ) → k < 64 → bit_at (bit_and word ((2 ^ 64 - 1) * 2 ^ k % 2 ^ 64)) i ≡ 1 → k ≤ i
late_kept word k i within one = elim (leb_tells k i) [
  | inl w ↦ w.1
  | inr w ↦ absurd (let e : bit_at (bit_and word ((2 ^ 64 - 1) * 2 ^ k % 2 ^ 64)) i ≡ 0 = lost_bits word k i within w.1 in let f : 1 ≡ 0 = sym one ∙ e in omega (arith, f))
]

lowest_at : (n : ℕ) → 0 < n → n < 2 ^ 64 → (trailing_zeros w64 n < 64) × (bit_at n (trailing_zeros w64 n) ≡ 1) × ((i : ℕ) → i < trailing_zeros w64 n → bit_at n i ≡ 0)
lowest_at n some fits = bit_at-trailing_zeros w64 n some fits

-- the lowest bit of those that are kept
pub lowest_kept : (word k rest : ℕ) → k < 64 → rest ≡ bit_and word ((2 ^ 64 - 1) * 2 ^ k % 2 ^ 64) → 0 < rest → rest < 2 ^ 64 → IsLowestBit word k (trailing_zeros w64 rest)
lowest_kept word k rest within is some fits =
    let low = lowest_at rest some fits in
    let one : bit_at (bit_and word ((2 ^ 64 - 1) * 2 ^ k % 2 ^ 64)) (trailing_zeros w64 rest) ≡ 1 = ap (λ (r : ℕ). bit_at r (trailing_zeros w64 rest)) (sym is) ∙ low.1 in
    let late : k ≤ trailing_zeros w64 rest = late_kept word k (trailing_zeros w64 rest) within one in
    record {
      within = low.0;
      late = late;
      raised = sym (kept_bits word k (trailing_zeros w64 rest) within late low.0) ∙ one;
      first = λ j from before. sym (kept_bits word k j within from (omega (arith, low.0))) ∙ (ap (λ (r : ℕ). bit_at r j) (sym is) ∙ low.2 j before);
    }

-- the lowest bit of a word
pub lowest_of : (word : ℕ) → 0 < word → word < 2 ^ 64 → IsLowestBit word 0 (trailing_zeros w64 word)
lowest_of word some fits =
    let low = lowest_at word some fits in
    record { within = low.0; late = omega arith; raised = low.1; first = λ j from before. low.2 j before }
