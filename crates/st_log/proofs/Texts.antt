-- How many bytes of a text are whole lines.
use Rattle.std.proofs.Common.{◌≡◌, ◌≢◌, ◌⊎◌, inl, inr, ⊎_elim, ℕ, zero, suc, ◌+◌, ◌<◌, ◌≤◌, List, [], ◌∷◌, ◌++◌, length, take, refl, sym, ◌∙◌, ap, arith, length-append}
use Rattle.std.proofs.lemmas.Bool.{cases_eq}
use Rattle.std.proofs.lemmas.Bool.Decides.{nat_tests}
use Rattle.std.proofs.lemmas.List.{length-take-le}
use Rattle.st_log.specs.Lines.{whole_lines, whole_len_from}

-- ---- a byte more

pub opens : (b : ℕ) (bs : List ℕ) → b ≡ 123 → whole_len_from 0 (b ∷ bs) ≡ whole_len_from 1 bs
opens b bs is = grind (arith, nat_tests)

pub shut : (b : ℕ) (bs : List ℕ) → b ≢ 123 → whole_len_from 0 (b ∷ bs) ≡ 0
shut b bs is = grind (arith, nat_tests)

pub ends : (n b : ℕ) (bs : List ℕ) → b ≡ 10 → whole_len_from (suc n) (b ∷ bs) ≡ suc (suc n) + whole_len_from 0 bs
ends n b bs is = grind (arith, nat_tests)

pub goes_on : (n b : ℕ) (bs : List ℕ) → b ≢ 10 → whole_len_from (suc n) (b ∷ bs) ≡ whole_len_from (suc (suc n)) bs
goes_on n b bs is = grind (arith, nat_tests)

-- ---- bounds

pub within : (n : ℕ) (bs : List ℕ) → whole_len_from n bs ≤ n + length bs
within n [] = omega arith
within zero (b ∷ bs) = elim (cases_eq b 123) [
  | inl is ↦ omega (arith, opens b bs is, within 1 bs)
  | inr other ↦ omega (arith, shut b bs other)
]
within (suc n) (b ∷ bs) = elim (cases_eq b 10) [
  | inl is ↦ omega (arith, ends n b bs is, within 0 bs)
  | inr other ↦ omega (arith, goes_on n b bs other, within (suc (suc n)) bs)
]

-- there is no whole line, or one that has what stands before the text
pub none_or_more : (n : ℕ) (bs : List ℕ) → (whole_len_from n bs ≡ 0) ⊎ (n < whole_len_from n bs)
none_or_more n [] = inl refl
none_or_more zero (b ∷ bs) = elim (cases_eq b 123) [
  | inl is ↦ ⊎_elim (λ none. inl (opens b bs is ∙ none)) (λ more. inr (omega (arith, opens b bs is, more))) (none_or_more 1 bs)
  | inr other ↦ inl (shut b bs other)
]
none_or_more (suc n) (b ∷ bs) = elim (cases_eq b 10) [
  | inl is ↦ inr (omega (arith, ends n b bs is))
  | inr other ↦ ⊎_elim (λ none. inl (goes_on n b bs other ∙ none)) (λ more. inr (omega (arith, goes_on n b bs other, more))) (none_or_more (suc (suc n)) bs)
]

-- ---- texts one behind the other

joined : (n : ℕ) (xs ys : List ℕ) → whole_len_from n xs ≡ n + length xs → whole_len_from n (xs ++ ys) ≡ n + length xs + whole_len_from 0 ys
joined zero [] ys h = omega arith
joined (suc n) [] ys h = absurd (omega (arith, h))
joined zero (b ∷ bs) ys h = elim (cases_eq b 123) [
  | inl is ↦ omega (arith, opens b (bs ++ ys) is, joined 1 bs ys (omega (arith, h, opens b bs is)))
  | inr other ↦ absurd (omega (arith, h, shut b bs other))
]
joined (suc n) (b ∷ bs) ys h = elim (cases_eq b 10) [
  | inl is ↦ omega (arith, ends n b (bs ++ ys) is, joined 0 bs ys (omega (arith, h, ends n b bs is)))
  | inr other ↦ omega (arith, goes_on n b (bs ++ ys) other, joined (suc (suc n)) bs ys (omega (arith, h, goes_on n b bs other)))
]

-- the front of a text that has its whole lines has the same
pub front : (n m : ℕ) (bs : List ℕ) → whole_len_from n bs ≤ n + m → whole_len_from n (take m bs) ≡ whole_len_from n bs
front n zero bs h = ⊎_elim (λ none. sym none) (λ more. absurd (omega (arith, more, h))) (none_or_more n bs)
front n (suc m) [] h = refl
front zero (suc m) (b ∷ bs) h = elim (cases_eq b 123) [
  | inl is ↦ opens b (take m bs) is ∙ front 1 m bs (omega (arith, h, opens b bs is)) ∙ sym (opens b bs is)
  | inr other ↦ shut b (take m bs) other ∙ sym (shut b bs other)
]
front (suc n) (suc m) (b ∷ bs) h = elim (cases_eq b 10) [
  | inl is ↦ ends n b (take m bs) is ∙ ap (λ (k : ℕ). suc (suc n) + k) (front 0 m bs (omega (arith, h, ends n b bs is))) ∙ sym (ends n b bs is)
  | inr other ↦ goes_on n b (take m bs) other ∙ front (suc (suc n)) m bs (omega (arith, h, goes_on n b bs other)) ∙ sym (goes_on n b bs other)
]

-- ---- whole texts

-- all of a text is whole lines
abbrev pub IsWhole : List ℕ → Type 0
IsWhole text = whole_len_from 0 text ≡ length text

pub length-whole_lines : (file : List ℕ) → length (whole_lines file) ≡ whole_len_from 0 file
length-whole_lines file = length-take-le (whole_len_from 0 file) file (omega (arith, within 0 file))

pub whole_is_whole : (file : List ℕ) → IsWhole (whole_lines file)
whole_is_whole file = front 0 (whole_len_from 0 file) file (omega arith) ∙ sym (length-whole_lines file)

take_past : (xs ys : List ℕ) (m n : ℕ) → m ≡ length xs + n → take m (xs ++ ys) ≡ xs ++ take n ys
take_past [] ys m n is = let same : m ≡ n = omega (arith, is) in ap (λ (k : ℕ). take k ys) same
take_past (x ∷ xs) ys zero n is = absurd (omega (arith, is))
take_past (x ∷ xs) ys (suc m) n is = ap (λ (l : List ℕ). x ∷ l) (take_past xs ys m n (omega (arith, is)))

-- behind whole lines stand those of the rest
pub whole-join : (text rest : List ℕ) → IsWhole text → whole_lines (text ++ rest) ≡ text ++ whole_lines rest
whole-join text rest is = take_past text rest (whole_len_from 0 (text ++ rest)) (whole_len_from 0 rest) (omega (arith, joined 0 text rest (omega (arith, is))))

pub whole-both : (text more : List ℕ) → IsWhole text → IsWhole more → IsWhole (text ++ more)
whole-both text more is also = omega (arith, joined 0 text more (omega (arith, is)), also, length-append text more)
