-- The sorts of bytes that begin pieces are apart.
use Rattle.std.proofs.Common.{◌≡◌, ℕ, ◌⊎◌, inl, inr, Bool, true, false, not, ◌&&◌, eqb, List, [], ◌∷◌, refl, subst, arith}
use Rattle.std.specs.List.{list_all, list_any}
use Rattle.std.proofs.lemmas.Bool.{and_parts, or_cases, or_parts, or_from, eqb-true, not-true}
use Rattle.st_classes.specs.Selectors.{is_letter, is_digit, is_letter_or_digit, is_binary_character, binary_characters}
use Rattle.st_reader.specs.Pieces.{is_white, begins, begins_equals}

-- what a byte that begins a binary selector isn't
pub record IsOther (b : ℕ) : Type 0 where
  pub white : is_white b ≡ false
  pub quote : eqb b 34 ≡ false
  pub letter : is_letter b ≡ false
  pub digit : is_digit b ≡ false

-- a byte that begins neither white space, nor a comment, a word or a number
abbrev begins_none : ℕ → Bool
begins_none b = not (is_white b) && not (eqb b 34) && not (is_letter b) && not (is_digit b)

among : (q : ℕ → Bool) (cs : List ℕ) (b : ℕ) → list_all q cs ≡ true → list_any (λ c. eqb c b) cs ≡ true → q b ≡ true
among q [] b all any = absurd cc
among q (c ∷ cs) b all any =
    let both = and_parts (q c) (list_all q cs) all in
    by both.0 (among q cs b both.1) (or_cases (eqb c b) (list_any (λ c. eqb c b) cs) any)
  where
    by : q c ≡ true → (list_any (λ c. eqb c b) cs ≡ true → q b ≡ true) → (eqb c b ≡ true) ⊎ (list_any (λ c. eqb c b) cs ≡ true) → q b ≡ true
    by first rest (inl here) = subst (λ (n : ℕ). q n ≡ true) (eqb-true c b here) first
    by first rest (inr there) = rest there

pub binary_other : (b : ℕ) → is_binary_character b ≡ true → IsOther b
binary_other b e =
    let all : begins_none b ≡ true = among begins_none binary_characters b refl e in
    let d = and_parts (not (is_white b) && not (eqb b 34) && not (is_letter b)) (not (is_digit b)) all in
    let l = and_parts (not (is_white b) && not (eqb b 34)) (not (is_letter b)) d.0 in
    let q = and_parts (not (is_white b)) (not (eqb b 34)) l.0 in
    record { white = not-true _ q.0; quote = not-true _ q.1; letter = not-true _ l.1; digit = not-true _ d.1 }

pub letter_white : (b : ℕ) → is_letter b ≡ true → is_white b ≡ false
letter_white b e = grind (arith)

pub letter_quote : (b : ℕ) → is_letter b ≡ true → eqb b 34 ≡ false
letter_quote b e = grind (arith)

pub letter_equals : (b : ℕ) → is_letter b ≡ true → eqb b 61 ≡ false
letter_equals b e = grind (arith)

pub letter_colon : (b : ℕ) → is_letter b ≡ true → eqb b 58 ≡ false
letter_colon b e = grind (arith)

pub digit_white : (b : ℕ) → is_digit b ≡ true → is_white b ≡ false
digit_white b e = grind (arith)

pub digit_quote : (b : ℕ) → is_digit b ≡ true → eqb b 34 ≡ false
digit_quote b e = grind (arith)

pub digit_letter : (b : ℕ) → is_digit b ≡ true → is_letter b ≡ false
digit_letter b e = grind (arith)

-- what begins with neither a letter nor a digit
pub no_letter : (bs : List ℕ) → begins is_letter_or_digit bs ≡ false → begins is_letter bs ≡ false
no_letter [] e = refl
no_letter (b ∷ bs) e = (or_parts (is_letter b) (is_digit b) e).0

pub no_digit : (bs : List ℕ) → begins is_letter_or_digit bs ≡ false → begins is_digit bs ≡ false
no_digit [] e = refl
no_digit (b ∷ bs) e = (or_parts (is_letter b) (is_digit b) e).1

pub no_more : (bs : List ℕ) → begins is_letter bs ≡ false → begins is_digit bs ≡ false → begins is_letter_or_digit bs ≡ false
no_more [] e f = refl
no_more (b ∷ bs) e f = or_from (is_letter b) (is_digit b) e f

pub letter_no_equals : (bs : List ℕ) → begins is_letter bs ≡ true → begins_equals bs ≡ false
letter_no_equals [] e = absurd cc
letter_no_equals (b ∷ bs) e = letter_equals b e
