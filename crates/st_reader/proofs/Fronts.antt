-- What is found at the front of a text is a piece that may stop.
use Rattle.std.proofs.Common.{◌≡◌, ℕ, suc, ◌+◌, ◌<◌, Bool, true, false, not, ◌&&◌, ◌||◌, eqb, cond, if◌then◌else◌, List, [], ◌∷◌, length, take, drop, Option, Some, None, refl, sym, subst, ap, ◌∙◌, arith, add-one, length-drop}
use Rattle.std.specs.Prelude.{option_map, nat_lt}
use Rattle.std.specs.List.{prefix_len}
use Rattle.std.specs.Str.{bytes_eq}
use Rattle.std.proofs.lemmas.Bool.{and_parts, and_from, or_parts, or_left, eqb-true, not_from_false, not-false, and_left, false_from_ne_true, ltb-true}
use Rattle.st_classes.specs.Selectors.{is_letter, is_digit, is_letter_or_digit, is_binary_character, is_binary}
use Rattle.st_reader.specs.declared.tokens.Mark.{Mark as Sign}
use Rattle.st_reader.specs.declared.tokens.Mark.TheVariants.{OpenParenthesis, CloseParenthesis, OpenBlock, CloseBlock, Caret, Period, Semicolon, Bar}
use Rattle.st_reader.specs.declared.tokens.Kind.TheVariants.{Identifier, Keyword, Assign, Binary, Number, Symbol, Mark}
use Rattle.st_reader.specs.declared.tokens.Piece.{Piece}
use Rattle.st_reader.specs.declared.tokens.Piece.TheVariants.{White, Comment, Token as Whole}
use Rattle.st_reader.specs.Pieces.{begins, begins_equals, begins_colon, begins_fraction, is_white, is_no_quote, is_word, are_keywords, sign, is_piece, binary_stops, symbol_stops, may_stop}
use Rattle.st_reader.specs.Lexer.{comment, keyword_more, word_front, number_front, binary_more, keywords_length, word_symbol, symbol_length, mark_of, mark_front, front}
use Rattle.st_reader.proofs.Sorts.{binary_other, letter_equals, no_more}
use Rattle.st_reader.proofs.Lists.{run_passes, run_stops, closed_take}
use Rattle.st_reader.proofs.Keywords.{AreKeywords, keywords_are, keywords_other, letter_next}

-- a piece in front of a text, by its first byte and how many it has behind that
pub record IsFront (b : ℕ) (bs : List ℕ) (x : Piece × ℕ) : Type 0 where
  pub piece : is_piece x.0 (b ∷ take x.1 bs) ≡ true
  pub stops : may_stop x.0 (b ∷ take x.1 bs) (drop x.1 bs) ≡ true

-- a test, and what it gives
chosen : {A : Type 0} (P : A → Type 0) (t : Bool) (x y : Option A) (z : A) → (t ≡ true → x ≡ Some z → P z) → (t ≡ false → y ≡ Some z → P z) → cond t x y ≡ Some z → P z
chosen P true x y z f g e = f refl e
chosen P false x y z f g e = g refl e

given : {A : Type 0} (P : A → Type 0) (x z : A) → P x → Some x ≡ Some z → P z
given P x z p e = let same : x ≡ z = cc in subst P same p

identifier_is : (b : ℕ) (bs : List ℕ) → is_letter b ≡ true → begins_colon (drop (prefix_len is_letter_or_digit bs) bs) ≡ false → IsFront b bs (Whole Identifier, prefix_len is_letter_or_digit bs)
identifier_is b bs letter c =
    let none : not (begins is_letter_or_digit (drop (prefix_len is_letter_or_digit bs) bs)) ≡ true = not_from_false _ (run_stops is_letter_or_digit bs) in
    record { piece = and_from _ _ letter (run_passes is_letter_or_digit bs); stops = and_from _ _ none (not_from_false _ c) }

word_is : (b : ℕ) (bs : List ℕ) → is_letter b ≡ true → IsFront b bs (Whole (word_front bs).0, (word_front bs).1)
word_is b bs letter = by (begins_colon (drop (prefix_len is_letter_or_digit bs) bs)) refl
  where
    keyword : (rest : List ℕ) → drop (prefix_len is_letter_or_digit bs) bs ≡ rest → begins_colon rest ≡ true → IsFront b bs (Whole Keyword, prefix_len is_letter_or_digit bs + 1)
    keyword [] at c = absurd cc
    keyword (d ∷ ds) at c =
        let both = and_parts (eqb d 58) (not (begins_equals ds)) c in
        let colon : d ≡ 58 = eqb-true d 58 both.0 in
        let here : drop (prefix_len is_letter_or_digit bs) bs ≡ 58 ∷ ds = at ∙ rw colon refl in
        let closed = closed_take 58 is_letter_or_digit bs ds here in
        let after : drop (prefix_len is_letter_or_digit bs + 1) bs ≡ ds = closed.1 in
        record { piece = and_from _ _ letter closed.0; stops = rw after both.1 }

    by : (v : Bool) → begins_colon (drop (prefix_len is_letter_or_digit bs) bs) ≡ v → IsFront b bs (Whole (word_front bs).0, (word_front bs).1)
    by true c = rw c (keyword (drop (prefix_len is_letter_or_digit bs) bs) refl c)
    by false c = rw c (identifier_is b bs letter c)

comment_is : (bs : List ℕ) (x : Piece × ℕ) → comment bs ≡ Some x → IsFront 34 bs x
comment_is bs x e =
    chosen (IsFront 34 bs) (nat_lt (prefix_len is_no_quote bs) (length bs)) (Some (Comment, prefix_len is_no_quote bs + 1)) None x (λ t. given (IsFront 34 bs) (Comment, prefix_len is_no_quote bs + 1) x (closed (drop (prefix_len is_no_quote bs) bs) refl (ltb-true _ _ t))) (λ t h. absurd cc) e
  where
    closed : (rest : List ℕ) → drop (prefix_len is_no_quote bs) bs ≡ rest → prefix_len is_no_quote bs < length bs → IsFront 34 bs (Comment, prefix_len is_no_quote bs + 1)
    closed [] at below =
        let long = length-drop (prefix_len is_no_quote bs) bs in
        let none = ap length at in
        absurd (omega (arith, long, none))
    closed (d ∷ ds) at below =
        let stop : not (eqb d 34) ≡ false = rw at at (run_stops is_no_quote bs) in
        let quote : d ≡ 34 = eqb-true d 34 (not-false _ stop) in
        let here : drop (prefix_len is_no_quote bs) bs ≡ 34 ∷ ds = at ∙ rw quote refl in
        record { piece = (closed_take 34 is_no_quote bs ds here).0; stops = refl }

number_is : (b : ℕ) (bs : List ℕ) (x : Piece × ℕ) → is_digit b ≡ true → number_front bs ≡ Some x → IsFront b bs x
number_is b bs x digit e =
    chosen (IsFront b bs) (begins is_letter after || begins_fraction after) None (Some (Whole Number, prefix_len is_digit bs)) x (λ t h. absurd cc) (λ t. given (IsFront b bs) (Whole Number, prefix_len is_digit bs) x (stopped t)) e
  where
    after : List ℕ
    after = drop (prefix_len is_digit bs) bs

    stopped : (begins is_letter after || begins_fraction after) ≡ false → IsFront b bs (Whole Number, prefix_len is_digit bs)
    stopped t =
        let none = or_parts (begins is_letter after) (begins_fraction after) t in
        record { piece = and_from _ _ digit (run_passes is_digit bs); stops = and_from _ _ (not_from_false _ (no_more after none.0 (run_stops is_digit bs))) (not_from_false _ none.1) }

binary_is : (b : ℕ) (bs : List ℕ) → is_binary_character b ≡ true → (is_binary (b ∷ take (binary_more bs) bs) ≡ true) × (binary_stops (b ∷ take (binary_more bs) bs) (drop (binary_more bs) bs) ≡ true)
binary_is b [] e = (e, refl)
binary_is b (c ∷ cs) e = by (is_binary_character c && not (eqb c 45)) refl
  where
    by : (v : Bool) → (is_binary_character c && not (eqb c 45)) ≡ v → (is_binary (b ∷ take (binary_more (c ∷ cs)) (c ∷ cs)) ≡ true) × (binary_stops (b ∷ take (binary_more (c ∷ cs)) (c ∷ cs)) (drop (binary_more (c ∷ cs)) (c ∷ cs)) ≡ true)
    by true h =
        let both = and_parts (is_binary_character c) (not (eqb c 45)) h in
        rw h (and_from _ _ (and_from _ _ e both.0) both.1, refl)
    by false h = rw h (e, not_from_false _ h)

no_binary : (b : ℕ) (bs : List ℕ) → is_letter b ≡ true → is_binary (b ∷ bs) ≡ false
no_binary b bs letter = by bs (false_from_ne_true (is_binary_character b) (λ (c : is_binary_character b ≡ true). let none = (binary_other b c).letter in absurd cc))
  where
    by : (bs : List ℕ) → is_binary_character b ≡ false → is_binary (b ∷ bs) ≡ false
    by [] e = e
    by (c ∷ []) e = and_left _ _ (and_left _ _ e)
    by (c ∷ d ∷ ds) e = refl

either_first : (x y z : Bool) → x ≡ true → (x || y || z) ≡ true
either_first true y z e = refl
either_first false y z e = absurd cc

either_second : (x y z : Bool) → y ≡ true → (x || y || z) ≡ true
either_second true y z e = refl
either_second false true z e = refl
either_second false false z e = absurd cc

either_third : (x y z : Bool) → z ≡ true → (x || y || z) ≡ true
either_third true y z e = refl
either_third false true z e = refl
either_third false false z e = e

keywords_symbol : (c : ℕ) (cs : List ℕ) (m : ℕ) → is_letter c ≡ true → keywords_length false (c ∷ cs) ≡ Some (suc m) → IsFront 35 (c ∷ cs) (Whole Symbol, suc m)
keywords_symbol c cs m letter found =
    let at : AreKeywords false (c ∷ cs) (suc m) = keywords_are false (c ∷ cs) (suc m) found in
    let keywords : are_keywords (c ∷ take m cs) ≡ true = at.left in
    let no_word : is_word (c ∷ take m cs) ≡ false = keywords_other c (take m cs) keywords in
    let other : is_binary (c ∷ take m cs) ≡ false = no_binary c (take m cs) letter in
    let equals : begins_equals (drop m cs) ≡ false = at.equals (λ _. letter_equals c letter) in
    let stop : symbol_stops (c ∷ take m cs) (drop m cs) ≡ true = rw (no_word, other) (and_from _ _ (not_from_false _ equals) (not_from_false _ at.letter)) in
    record { piece = either_second (is_word (c ∷ take m cs)) (are_keywords (c ∷ take m cs)) (is_binary (c ∷ take m cs)) keywords; stops = stop }

symbol_is : (bs : List ℕ) (n : ℕ) → symbol_length bs ≡ Some n → IsFront 35 bs (Whole Symbol, n)
symbol_is [] n e = absurd cc
symbol_is (c ∷ cs) n e =
    chosen P (is_letter c) (word_symbol (keyword_more cs) (c ∷ cs)) (if is_binary_character c then Some (binary_more cs + 1) else None) n (λ l. word l (begins_colon (drop (prefix_len is_letter_or_digit cs) cs)) refl) (λ l. chosen P (is_binary_character c) (Some (binary_more cs + 1)) None n (λ b. given P (binary_more cs + 1) n (binary l b)) (λ b h. absurd cc)) e
  where
    P : ℕ → Type 0
    P n = IsFront 35 (c ∷ cs) (Whole Symbol, n)

    some : ℕ → Option ℕ
    some k = Some k

    word : is_letter c ≡ true → (v : Bool) → begins_colon (drop (prefix_len is_letter_or_digit cs) cs) ≡ v → word_symbol (keyword_more cs) (c ∷ cs) ≡ Some n → P n
    word l true colon f =
        let found : keywords_length false (c ∷ cs) ≡ Some n = rw colon at f in
        let m = letter_next c cs n l found in
        subst P (sym m.next) (keywords_symbol c cs m.before l (found ∙ ap some m.next))
    word l false colon f =
        let more : is_letter_or_digit c ≡ true = or_left (is_letter c) (is_digit c) l in
        let found : Some (1 + prefix_len is_letter_or_digit cs) ≡ Some n = rw (colon, more) at f in
        let long : n ≡ 1 + prefix_len is_letter_or_digit cs = cc in
        let same : n ≡ suc (prefix_len is_letter_or_digit cs) = omega (arith, long) in
        let at = identifier_is c cs l colon in
        let whole : is_word (c ∷ take (prefix_len is_letter_or_digit cs) cs) ≡ true = at.piece in
        let stop : symbol_stops (c ∷ take (prefix_len is_letter_or_digit cs) cs) (drop (prefix_len is_letter_or_digit cs) cs) ≡ true = rw whole at.stops in
        rw same record { piece = either_first (is_word (c ∷ take (prefix_len is_letter_or_digit cs) cs)) (are_keywords (c ∷ take (prefix_len is_letter_or_digit cs) cs)) (is_binary (c ∷ take (prefix_len is_letter_or_digit cs) cs)) whole; stops = stop }

    binary : is_letter c ≡ false → is_binary_character c ≡ true → P (binary_more cs + 1)
    binary l b =
        let at = binary_is c cs b in
        let whole : is_binary (c ∷ take (binary_more cs) cs) ≡ true = at.0 in
        let no_word : is_word (c ∷ take (binary_more cs) cs) ≡ false = and_left _ _ l in
        let stop : symbol_stops (c ∷ take (binary_more cs) cs) (drop (binary_more cs) cs) ≡ true = rw (no_word, whole) at.1 in
        let one : binary_more cs + 1 ≡ suc (binary_more cs) = add-one (binary_more cs) in
        rw one record { piece = either_third (is_word (c ∷ take (binary_more cs) cs)) (are_keywords (c ∷ take (binary_more cs) cs)) (is_binary (c ∷ take (binary_more cs) cs)) whole; stops = stop }

mark_of_is : (b : ℕ) (m : Sign) → mark_of b ≡ Some m → bytes_eq (b ∷ []) (sign m) ≡ true
mark_of_is b m e =
    let bar : Option Sign = if eqb b 124 then Some Bar else None in
    let semicolon : Option Sign = if eqb b 59 then Some Semicolon else bar in
    let period : Option Sign = if eqb b 46 then Some Period else semicolon in
    let caret : Option Sign = if eqb b 94 then Some Caret else period in
    let close_block : Option Sign = if eqb b 93 then Some CloseBlock else caret in
    let open_block : Option Sign = if eqb b 91 then Some OpenBlock else close_block in
    let close : Option Sign = if eqb b 41 then Some CloseParenthesis else open_block in
    chosen P (eqb b 40) (Some OpenParenthesis) close m (λ t. given P OpenParenthesis m (is 40 t refl)) (λ _.
    chosen P (eqb b 41) (Some CloseParenthesis) open_block m (λ t. given P CloseParenthesis m (is 41 t refl)) (λ _.
    chosen P (eqb b 91) (Some OpenBlock) close_block m (λ t. given P OpenBlock m (is 91 t refl)) (λ _.
    chosen P (eqb b 93) (Some CloseBlock) caret m (λ t. given P CloseBlock m (is 93 t refl)) (λ _.
    chosen P (eqb b 94) (Some Caret) period m (λ t. given P Caret m (is 94 t refl)) (λ _.
    chosen P (eqb b 46) (Some Period) semicolon m (λ t. given P Period m (is 46 t refl)) (λ _.
    chosen P (eqb b 59) (Some Semicolon) bar m (λ t. given P Semicolon m (is 59 t refl)) (λ _.
    chosen P (eqb b 124) (Some Bar) None m (λ t. given P Bar m (is 124 t refl)) (λ _ h. absurd cc)))))))) e
  where
    P : Sign → Type 0
    P m = bytes_eq (b ∷ []) (sign m) ≡ true

    is : (n : ℕ) → eqb b n ≡ true → bytes_eq (n ∷ []) (n ∷ []) ≡ true → bytes_eq (b ∷ []) (n ∷ []) ≡ true
    is n t same = rw (eqb-true b n t) same

mark_is : (b : ℕ) (bs : List ℕ) (x : Piece × ℕ) → mark_front b bs ≡ Some x → IsFront b bs x
mark_is b bs x e = chosen (IsFront b bs) (eqb b 58 && begins_equals bs) (Some (Whole Assign, 1)) (option_map (λ m. (Whole (Mark m), 0)) (mark_of b)) x (λ t. given (IsFront b bs) (Whole Assign, 1) x (assign bs t)) (λ _. marked (mark_of b) refl) e
  where
    assign : (bs : List ℕ) → (eqb b 58 && begins_equals bs) ≡ true → IsFront b bs (Whole Assign, 1)
    assign [] t = let both = and_parts (eqb b 58) false t in let none = both.1 in absurd cc
    assign (c ∷ cs) t =
        let both = and_parts (eqb b 58) (eqb c 61) t in
        let colon : b ≡ 58 = eqb-true b 58 both.0 in
        let equals : c ≡ 61 = eqb-true c 61 both.1 in
        rw (colon, equals) record { piece = refl; stops = refl }

    marked : (o : Option Sign) → mark_of b ≡ o → option_map (λ m. (Whole (Mark m), 0)) o ≡ Some x → IsFront b bs x
    marked None f h = absurd cc
    marked (Some m) f h = given (IsFront b bs) (Whole (Mark m), 0) x record { piece = mark_of_is b m f; stops = refl } h

-- what is found begins the text and may stop there
pub front_is : (b : ℕ) (bs : List ℕ) (x : Piece × ℕ) → front (b ∷ bs) ≡ Some x → IsFront b bs x
front_is b bs x e =
    let symbols : Option (Piece × ℕ) = if eqb b 35 then option_map (λ n. (Whole Symbol, n)) (symbol_length bs) else mark_front b bs in
    let binaries : Option (Piece × ℕ) = if is_binary_character b then Some (Whole Binary, binary_more bs) else symbols in
    let numbers : Option (Piece × ℕ) = if is_digit b then number_front bs else binaries in
    let words : Option (Piece × ℕ) = if is_letter b then Some (Whole (word_front bs).0, (word_front bs).1) else numbers in
    let comments : Option (Piece × ℕ) = if eqb b 34 then comment bs else words in
    chosen P (is_white b) (Some (White, 0)) comments x (λ w. given P (White, 0) x record { piece = w; stops = refl }) (λ _.
    chosen P (eqb b 34) (comment bs) words x (λ q h. let quote : b ≡ 34 = eqb-true b 34 q in rw quote (comment_is bs x h)) (λ _.
    chosen P (is_letter b) (Some (Whole (word_front bs).0, (word_front bs).1)) numbers x (λ l. given P (Whole (word_front bs).0, (word_front bs).1) x (word_is b bs l)) (λ _.
    chosen P (is_digit b) (number_front bs) binaries x (number_is b bs x) (λ _.
    chosen P (is_binary_character b) (Some (Whole Binary, binary_more bs)) symbols x (λ c. let at = binary_is b bs c in given P (Whole Binary, binary_more bs) x record { piece = at.0; stops = at.1 }) (λ _.
    chosen P (eqb b 35) (option_map (λ n. (Whole Symbol, n)) (symbol_length bs)) (mark_front b bs) x (λ h. symbol (eqb-true b 35 h) (symbol_length bs) refl) (λ _. mark_is b bs x)))))) e
  where
    P : Piece × ℕ → Type 0
    P y = IsFront b bs y

    symbol : b ≡ 35 → (o : Option ℕ) → symbol_length bs ≡ o → option_map (λ n. (Whole Symbol, n)) o ≡ Some x → P x
    symbol hash None f h = absurd cc
    symbol hash (Some n) f h = given P (Whole Symbol, n) x (rw hash (symbol_is bs n f)) h
