-- A piece that may stop is what is found at the front of a text.
use Rattle.std.proofs.Common.{◌≡◌, ℕ, suc, ◌+◌, ◌<◌, Bool, true, false, not, ◌&&◌, ◌||◌, eqb, ltb, List, [], ◌∷◌, ◌++◌, length, drop, Option, Some, None, refl, sym, ap, ◌∙◌, arith, append_assoc, length-append}
use Rattle.std.specs.Prelude.{codes}
use Rattle.std.specs.List.{list_all, prefix_len}
use Rattle.std.specs.Cmp.Lexicographic.{bytes_decides}
use Rattle.std.proofs.Math.Seq.{drop-append_seam}
use Rattle.std.proofs.lemmas.Bool.{and_parts, and_from, or_left, eqb-true, not-true, lt-ltb}
use Rattle.st_classes.specs.Selectors.{is_letter, is_digit, is_letter_or_digit, is_binary_character, is_binary, parts}
use Rattle.st_reader.specs.declared.tokens.Mark.{Mark as Sign}
use Rattle.st_reader.specs.declared.tokens.Mark.TheVariants.{OpenParenthesis, CloseParenthesis, OpenBlock, CloseBlock, Caret, Period, Semicolon, Bar}
use Rattle.st_reader.specs.declared.tokens.Kind.TheVariants.{Identifier, Keyword, Assign, Binary, Number, Symbol, Mark}
use Rattle.st_reader.specs.declared.tokens.Piece.{Piece}
use Rattle.st_reader.specs.declared.tokens.Piece.TheVariants.{White, Comment, Token as Whole}
use Rattle.st_reader.specs.Pieces.{begins, begins_equals, begins_colon, begins_fraction, is_white, is_no_quote, are_closed_by, is_word, are_keywords, sign, is_piece, word_stops, keyword_stops, binary_stops, number_stops, symbol_stops, may_stop}
use Rattle.st_reader.specs.Lexer.{comment, keyword_more, word_front, number_front, binary_more, keywords_length, word_symbol, symbol_length, front}
use Rattle.st_reader.proofs.Sorts.{binary_other, letter_white, letter_quote, digit_white, digit_quote, digit_letter, no_letter, no_digit}
use Rattle.st_reader.proofs.Lists.{prefix_len-run, closed_parts, prefix_len-closed}
use Rattle.st_reader.proofs.Keywords.{inside, keywords_cons, keywords_found, keyword_none, Stops}

word_run : (bs behind : List ℕ) → list_all is_letter_or_digit bs ≡ true → word_stops behind ≡ true → prefix_len is_letter_or_digit (bs ++ behind) ≡ length bs
word_run bs behind all stops =
    let both = and_parts (not (begins is_letter_or_digit behind)) (not (begins_colon behind)) stops in
    prefix_len-run is_letter_or_digit bs behind all (not-true _ both.0)

no_keyword : (bs behind : List ℕ) → list_all is_letter_or_digit bs ≡ true → word_stops behind ≡ true → keyword_more (bs ++ behind) ≡ None
no_keyword bs behind all stops =
    let both = and_parts (not (begins is_letter_or_digit behind)) (not (begins_colon behind)) stops in
    let run : prefix_len is_letter_or_digit (bs ++ behind) ≡ length bs = word_run bs behind all stops in
    let rest : drop (length bs) (bs ++ behind) ≡ behind = drop-append_seam bs behind in
    let colon : begins_colon behind ≡ false = not-true _ both.1 in
    rw (run, rest, colon) refl

word_found : (bs behind : List ℕ) → list_all is_letter_or_digit bs ≡ true → word_stops behind ≡ true → word_front (bs ++ behind) ≡ (Identifier, length bs)
word_found bs behind all stops =
    let none : keyword_more (bs ++ behind) ≡ None = no_keyword bs behind all stops in
    let run : prefix_len is_letter_or_digit (bs ++ behind) ≡ length bs = word_run bs behind all stops in
    rw none (rw run refl)

keyword_found : (bs behind : List ℕ) → are_closed_by 58 is_letter_or_digit bs ≡ true → keyword_stops behind ≡ true → word_front (bs ++ behind) ≡ (Keyword, length bs)
keyword_found bs behind closed stops =
    let w = closed_parts 58 is_letter_or_digit bs closed in
    let is : bs ≡ w.inside ++ 58 ∷ [] = w.is in
    let joined : (w.inside ++ 58 ∷ []) ++ behind ≡ w.inside ++ 58 ∷ behind = append_assoc w.inside (58 ∷ []) behind in
    let run : prefix_len is_letter_or_digit (w.inside ++ 58 ∷ behind) ≡ length w.inside = prefix_len-closed 58 is_letter_or_digit w.inside behind refl w.all in
    let rest : drop (length w.inside) (w.inside ++ 58 ∷ behind) ≡ 58 ∷ behind = drop-append_seam w.inside (58 ∷ behind) in
    let equals : begins_equals behind ≡ false = not-true _ stops in
    let long : length (w.inside ++ 58 ∷ []) ≡ length w.inside + 1 = length-append w.inside (58 ∷ []) in
    rw (is, joined, run, rest, equals, long) refl

comment_found : (bs behind : List ℕ) → are_closed_by 34 is_no_quote bs ≡ true → comment (bs ++ behind) ≡ Some (Comment, length bs)
comment_found bs behind closed =
    let w = closed_parts 34 is_no_quote bs closed in
    let is : bs ≡ w.inside ++ 34 ∷ [] = w.is in
    let joined : (w.inside ++ 34 ∷ []) ++ behind ≡ w.inside ++ 34 ∷ behind = append_assoc w.inside (34 ∷ []) behind in
    let run : prefix_len is_no_quote (w.inside ++ 34 ∷ behind) ≡ length w.inside = prefix_len-closed 34 is_no_quote w.inside behind refl w.all in
    let below : length w.inside < length (w.inside ++ 34 ∷ behind) = omega (arith, length-append w.inside (34 ∷ behind)) in
    let test : ltb (length w.inside) (length (w.inside ++ 34 ∷ behind)) ≡ true = lt-ltb _ _ below in
    let long : length (w.inside ++ 34 ∷ []) ≡ length w.inside + 1 = length-append w.inside (34 ∷ []) in
    rw (is, joined, run, test, long) refl

number_found : (bs behind : List ℕ) → list_all is_digit bs ≡ true → number_stops behind ≡ true → number_front (bs ++ behind) ≡ Some (Whole Number, length bs)
number_found bs behind all stops =
    let both = and_parts (not (begins is_letter_or_digit behind)) (not (begins_fraction behind)) stops in
    let more : begins is_letter_or_digit behind ≡ false = not-true _ both.0 in
    let run : prefix_len is_digit (bs ++ behind) ≡ length bs = prefix_len-run is_digit bs behind all (no_digit behind more) in
    let rest : drop (length bs) (bs ++ behind) ≡ behind = drop-append_seam bs behind in
    let letter : begins is_letter behind ≡ false = no_letter behind more in
    let fraction : begins_fraction behind ≡ false = not-true _ both.1 in
    rw (run, rest, letter, fraction) refl

binary_found : (a : ℕ) (bs behind : List ℕ) → is_binary (a ∷ bs) ≡ true → binary_stops (a ∷ bs) behind ≡ true → (is_binary_character a ≡ true) × (binary_more (bs ++ behind) ≡ length bs)
binary_found a [] behind e stops =
    let none : begins (λ b. is_binary_character b && not (eqb b 45)) behind ≡ false = not-true _ stops in
    (e, rw none refl)
binary_found a (c ∷ []) behind e stops =
    let minus = and_parts (is_binary_character a && is_binary_character c) (not (eqb c 45)) e in
    let both = and_parts (is_binary_character a) (is_binary_character c) minus.0 in
    let second : (is_binary_character c && not (eqb c 45)) ≡ true = and_from _ _ both.1 minus.1 in
    (both.0, rw second refl)
binary_found a (c ∷ d ∷ ds) behind e stops = absurd cc

-- a word that keywords begin with is a keyword
keywords_symbol : (bs all : List ℕ) (n : ℕ) → keywords_length true bs ≡ Some n → word_symbol (keyword_more bs) all ≡ keywords_length false all
keywords_symbol bs all n e = by (keyword_more bs) refl
  where
    by : (o : Option ℕ) → keyword_more bs ≡ o → word_symbol o all ≡ keywords_length false all
    by (Some more) f = refl
    by None f = let none = keyword_none bs f in absurd cc

only : (x y z : Bool) → x ≡ false → z ≡ false → (x || y || z) ≡ true → y ≡ true
only false true false e f g = refl
only false false false e f g = absurd cc
only true y z e f g = absurd cc
only false y true e f g = absurd cc

symbol_found : (bs behind : List ℕ) → (is_word bs || are_keywords bs || is_binary bs) ≡ true → symbol_stops bs behind ≡ true → symbol_length (bs ++ behind) ≡ Some (length bs)
symbol_found [] behind e stops = absurd cc
symbol_found (b ∷ bs) behind e stops = by (is_word (b ∷ bs)) refl (is_binary (b ∷ bs)) refl
  where
    some : ℕ → Option ℕ
    some n = Some n

    by : (v : Bool) → is_word (b ∷ bs) ≡ v → (w : Bool) → is_binary (b ∷ bs) ≡ w → symbol_length (b ∷ bs ++ behind) ≡ Some (length (b ∷ bs))
    by true word w other =
        let stop : word_stops behind ≡ true = rw word at stops in
        let both = and_parts (is_letter b) (list_all is_letter_or_digit bs) word in
        let letter : is_letter b ≡ true = both.0 in
        let more : is_letter_or_digit b ≡ true = or_left (is_letter b) (is_digit b) letter in
        let all : list_all is_letter_or_digit (b ∷ bs) ≡ true = and_from _ _ more both.1 in
        let none : keyword_more (bs ++ behind) ≡ None = no_keyword bs behind both.1 stop in
        let whole : prefix_len is_letter_or_digit (b ∷ bs ++ behind) ≡ length (b ∷ bs) = word_run (b ∷ bs) behind all stop in
        rw (letter, none) (ap some whole)
    by false word true binary =
        let stop : binary_stops (b ∷ bs) behind ≡ true = rw (word, binary) at stops in
        let found = binary_found b bs behind binary stop in
        let here : is_binary_character b ≡ true = found.0 in
        let letter : is_letter b ≡ false = (binary_other b found.0).letter in
        let more : binary_more (bs ++ behind) ≡ length bs = found.1 in
        let one : length bs + 1 ≡ suc (length bs) = omega arith in
        rw (letter, here, more, one) refl
    by false word false binary =
        let stop : (keyword_stops behind && not (begins is_letter behind)) ≡ true = rw (word, binary) at stops in
        let both = and_parts (keyword_stops behind) (not (begins is_letter behind)) stop in
        let keywords : are_keywords (b ∷ bs) ≡ true = only (is_word (b ∷ bs)) (are_keywords (b ∷ bs)) (is_binary (b ∷ bs)) word binary e in
        let first = and_parts (is_letter b) (inside (parts bs)) (sym (keywords_cons b bs) ∙ keywords) in
        let letter : is_letter b ≡ true = first.0 in
        let ends : Stops behind = (not-true _ both.0, not-true _ both.1) in
        let inner : keywords_length true (bs ++ behind) ≡ Some (length bs) = keywords_found true bs behind first.1 ends in
        let all : keywords_length false (b ∷ bs ++ behind) ≡ Some (length (b ∷ bs)) = keywords_found false (b ∷ bs) behind keywords ends in
        rw letter (keywords_symbol (bs ++ behind) (b ∷ bs ++ behind) (length bs) inner ∙ all)

-- the byte of a mark
record IsMark (m : Sign) : Type 0 where
  byte : ℕ
  is : sign m ≡ byte ∷ []
  found : (behind : List ℕ) → front (byte ∷ behind) ≡ Some (Whole (Mark m), 0)

mark_found : (m : Sign) → IsMark m
mark_found OpenParenthesis = record { byte = 40; is = refl; found = λ _. refl }
mark_found CloseParenthesis = record { byte = 41; is = refl; found = λ _. refl }
mark_found OpenBlock = record { byte = 91; is = refl; found = λ _. refl }
mark_found CloseBlock = record { byte = 93; is = refl; found = λ _. refl }
mark_found Caret = record { byte = 94; is = refl; found = λ _. refl }
mark_found Period = record { byte = 46; is = refl; found = λ _. refl }
mark_found Semicolon = record { byte = 59; is = refl; found = λ _. refl }
mark_found Bar = record { byte = 124; is = refl; found = λ _. refl }

-- what begins a text and may stop there is found
pub front_found : (p : Piece) (b : ℕ) (bs behind : List ℕ) → is_piece p (b ∷ bs) ≡ true → may_stop p (b ∷ bs) behind ≡ true → front (b ∷ bs ++ behind) ≡ Some (p, length bs)
front_found White b [] behind e stops = rw e refl
front_found White b (c ∷ cs) behind e stops = absurd cc
front_found Comment b bs behind e stops =
    let both = and_parts (eqb b 34) (are_closed_by 34 is_no_quote bs) e in
    let quote : b ≡ 34 = eqb-true b 34 both.0 in
    let found : comment (bs ++ behind) ≡ Some (Comment, length bs) = comment_found bs behind both.1 in
    rw quote found
front_found (Whole Identifier) b bs behind e stops =
    let both = and_parts (is_letter b) (list_all is_letter_or_digit bs) e in
    let white : is_white b ≡ false = letter_white b both.0 in
    let quote : eqb b 34 ≡ false = letter_quote b both.0 in
    let letter : is_letter b ≡ true = both.0 in
    let found : word_front (bs ++ behind) ≡ (Identifier, length bs) = word_found bs behind both.1 stops in
    rw (white, quote, letter, found) refl
front_found (Whole Keyword) b bs behind e stops =
    let both = and_parts (is_letter b) (are_closed_by 58 is_letter_or_digit bs) e in
    let white : is_white b ≡ false = letter_white b both.0 in
    let quote : eqb b 34 ≡ false = letter_quote b both.0 in
    let letter : is_letter b ≡ true = both.0 in
    let found : word_front (bs ++ behind) ≡ (Keyword, length bs) = keyword_found bs behind both.1 stops in
    rw (white, quote, letter, found) refl
front_found (Whole Assign) b bs behind e stops =
    let is : b ∷ bs ≡ 58 ∷ 61 ∷ [] = (bytes_decides (b ∷ bs) (codes ":=")).0 e in
    let first : b ≡ 58 = cc in
    let rest : bs ≡ 61 ∷ [] = cc in
    rw (first, rest) refl
front_found (Whole Number) b bs behind e stops =
    let both = and_parts (is_digit b) (list_all is_digit bs) e in
    let white : is_white b ≡ false = digit_white b both.0 in
    let quote : eqb b 34 ≡ false = digit_quote b both.0 in
    let letter : is_letter b ≡ false = digit_letter b both.0 in
    let digit : is_digit b ≡ true = both.0 in
    let found : number_front (bs ++ behind) ≡ Some (Whole Number, length bs) = number_found bs behind both.1 stops in
    rw (white, quote, letter, digit, found) refl
front_found (Whole Binary) b bs behind e stops =
    let found = binary_found b bs behind e stops in
    let other = binary_other b found.0 in
    let white : is_white b ≡ false = other.white in
    let quote : eqb b 34 ≡ false = other.quote in
    let letter : is_letter b ≡ false = other.letter in
    let digit : is_digit b ≡ false = other.digit in
    let binary : is_binary_character b ≡ true = found.0 in
    let more : binary_more (bs ++ behind) ≡ length bs = found.1 in
    rw (white, quote, letter, digit, binary, more) refl
front_found (Whole Symbol) b bs behind e stops =
    let both = and_parts (eqb b 35) (is_word bs || are_keywords bs || is_binary bs) e in
    let hash : b ≡ 35 = eqb-true b 35 both.0 in
    let found : symbol_length (bs ++ behind) ≡ Some (length bs) = symbol_found bs behind both.1 stops in
    rw (hash, found) refl
front_found (Whole (Mark m)) b bs behind e stops =
    let one = mark_found m in
    let is : b ∷ bs ≡ one.byte ∷ [] = (bytes_decides (b ∷ bs) (sign m)).0 e ∙ one.is in
    let first : b ≡ one.byte = cc in
    let rest : bs ≡ [] = cc in
    rw (first, rest) (one.found behind)
