-- Selectors and class names are UTF-8, since they are ASCII.
use Rattle.std.proofs.Common.{◌≡◌, ℕ, ◌<◌, ◌+◌, Bool, true, false, not, ◌&&◌, ◌==◌, List, [], ◌∷◌, length, Option, Some, None, option_map, is_some, refl, sym, arith, rules, true≢false, subst, nat_le}
use Rattle.std.specs.List.{list_any, list_all}
use Rattle.std.specs.Str.{IsAscii, is_utf8}
use Rattle.std.proofs.lemmas.Bool.{and_parts, eqb-true}
use Rattle.std.proofs.lemmas.Bool.Decides.{nat_tests}
use Rattle.std.proofs.lemmas.Str.{IsUtf8-from_ascii, is_utf8-from_IsUtf8}
use Rattle.std.proofs.lemmas.Str.Ascii.{IsAscii-nil, IsAscii-cons}
use Rattle.st_classes.specs.Selectors.{is_letter, is_letter_or_digit, is_identifier, begins_upper, is_class_name, is_binary_character, binary_characters, is_binary, parts, before_first_part, keywords, keyword_arity, is_selector}

-- bytes below 128
abbrev AreAscii : List ℕ → Type 0
AreAscii [] = Unit {0}
AreAscii (b ∷ bs) = (b < 128) × AreAscii bs

ascii : (text : List ℕ) → AreAscii text → IsAscii text
ascii [] a = IsAscii-nil
ascii (b ∷ bs) a = IsAscii-cons b bs a.0 (ascii bs a.1)

text_of_ascii : (text : List ℕ) → AreAscii text → is_utf8 text ≡ true
text_of_ascii text a = is_utf8-from_IsUtf8 text (IsUtf8-from_ascii text (ascii text a))

-- ---- identifiers

letter_or_digit : (b : ℕ) → is_letter_or_digit b ≡ true → b < 128
letter_or_digit b h = grind (arith, nat_tests)

letter : (b : ℕ) → is_letter b ≡ true → b < 128
letter b h = grind (arith, nat_tests)

letters_and_digits : (bs : List ℕ) → list_all is_letter_or_digit bs ≡ true → AreAscii bs
letters_and_digits [] h = tt
letters_and_digits (b ∷ bs) h =
    let both = and_parts (is_letter_or_digit b) (list_all is_letter_or_digit bs) h in
    (letter_or_digit b both.0, letters_and_digits bs both.1)

identifier : (text : List ℕ) → is_identifier text ≡ true → AreAscii text
identifier [] h = tt
identifier (b ∷ bs) h =
    let outer = and_parts (is_letter b && list_all is_letter_or_digit bs) (nat_le (length bs) 63) h in
    let inner = and_parts (is_letter b) (list_all is_letter_or_digit bs) outer.0 in
    (letter b inner.0, letters_and_digits bs inner.1)

pub class_name_is_text : (text : List ℕ) → is_class_name text ≡ true → is_utf8 text ≡ true
class_name_is_text text h = text_of_ascii text (identifier text (and_parts (is_identifier text) (begins_upper text) h).0)

-- ---- binary selectors

among : (b : ℕ) (cs : List ℕ) → AreAscii cs → list_any (λ c. c == b) cs ≡ true → b < 128
among b [] a h = cc
among b (c ∷ cs) a h = by (c == b) refl (λ k. among b cs a.1 k)
  where
    by : (t : Bool) → (c == b) ≡ t → (list_any (λ d. d == b) cs ≡ true → b < 128) → b < 128
    by true e later = let s : c ≡ b = eqb-true c b e in subst (λ n. n < 128) s a.0
    by false e later = later (rw e at h)

binary_character : (b : ℕ) → is_binary_character b ≡ true → b < 128
binary_character b h = among b binary_characters are_ascii h
  where
    are_ascii : AreAscii binary_characters
    are_ascii = search rules

binary : (text : List ℕ) → is_binary text ≡ true → AreAscii text
binary [] h = tt
binary (a ∷ []) h = (binary_character a h, tt)
binary (a ∷ b ∷ []) h =
    let outer = and_parts (is_binary_character a && is_binary_character b) (not (b == 45)) h in
    let inner = and_parts (is_binary_character a) (is_binary_character b) outer.0 in
    (binary_character a inner.0, (binary_character b inner.1, tt))
binary (a ∷ b ∷ c ∷ bs) h = cc

-- ---- keywords

abbrev ArePartsAscii : List (List ℕ) → Type 0
ArePartsAscii [] = Unit {0}
ArePartsAscii (p ∷ ps) = AreAscii p × ArePartsAscii ps

joined : (b : ℕ) (ps : List (List ℕ)) → ArePartsAscii (before_first_part b ps) → (b < 128) × ArePartsAscii ps
joined b [] h = (h.0.0, tt)
joined b (p ∷ ps) h = (h.0.0, (h.0.1, h.1))

whole : (text : List ℕ) → ArePartsAscii (parts text) → AreAscii text
whole [] h = tt
whole (b ∷ bs) h = by (b == 58) refl (λ k. whole bs k)
  where
    by : (t : Bool) → (b == 58) ≡ t → (ArePartsAscii (parts bs) → AreAscii bs) → AreAscii (b ∷ bs)
    by true e later =
        let k = rw e at h in
        let s : b ≡ 58 = eqb-true b 58 e in
        (omega (arith, s), later k.1)
    by false e later = let k = joined b (parts bs) (rw e at h) in (k.0, later k.1)

mapped : (o : Option ℕ) → is_some (option_map (λ n. n + 1) o) ≡ true → is_some o ≡ true
mapped None h = h
mapped (Some n) h = refl

keyword_parts : (ps : List (List ℕ)) → is_some (keywords ps) ≡ true → ArePartsAscii ps
keyword_parts [] h = tt
keyword_parts ([] ∷ []) h = (tt, tt)
keyword_parts ((b ∷ bs) ∷ []) h = by (length (b ∷ bs) == 0) refl
  where
    by : (t : Bool) → (length (b ∷ bs) == 0) ≡ t → ArePartsAscii ((b ∷ bs) ∷ [])
    by true e = absurd (omega (arith, eqb-true (length (b ∷ bs)) 0 e))
    by false e = absurd (true≢false (sym (rw e at h)))
keyword_parts (part ∷ next ∷ rest) h = by (is_identifier part) refl (λ k. keyword_parts (next ∷ rest) k)
  where
    by : (t : Bool) → is_identifier part ≡ t → (is_some (keywords (next ∷ rest)) ≡ true → ArePartsAscii (next ∷ rest)) → ArePartsAscii (part ∷ next ∷ rest)
    by true e later = (identifier part e, later (mapped (keywords (next ∷ rest)) (rw e at h)))
    by false e later = absurd (true≢false (sym (rw e at h)))

counted : (o : Option ℕ) → is_some (keyword_arity o) ≡ true → is_some o ≡ true
counted None h = h
counted (Some n) h = refl

pub selector_is_text : (text : List ℕ) → is_selector text ≡ true → is_utf8 text ≡ true
selector_is_text text h = text_of_ascii text (by (is_identifier text) (is_binary text) refl refl)
  where
    by : (i b : Bool) → is_identifier text ≡ i → is_binary text ≡ b → AreAscii text
    by true b e f = identifier text e
    by false true e f = binary text f
    by false false e f = whole text (keyword_parts (parts text) (counted (keywords (parts text)) (rw (e, f) at h)))
