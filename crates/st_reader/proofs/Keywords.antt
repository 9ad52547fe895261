-- Keywords without space between them, from the front.
use Rattle.std.proofs.Common.{◌≡◌, ℕ, suc, ◌+◌, ◌<◌, Bool, true, false, not, ◌&&◌, eqb, if◌then◌else◌, List, [], ◌∷◌, ◌++◌, length, take, drop, Option, Some, None, refl, sym, ap, ◌∙◌, arith, drop-drop}
use Rattle.std.specs.Prelude.{option_map}
use Rattle.std.specs.List.{list_all, prefix_len}
use Rattle.std.proofs.lemmas.Bool.{and_parts, and_from, eqb-true, not-true, false_from_ne_true, and_left, and_right}
use Rattle.st_classes.specs.Selectors.{is_letter, is_letter_or_digit, before_first_part, parts}
use Rattle.st_reader.specs.Pieces.{begins, begins_equals, begins_colon, is_word, are_closed_words, are_keywords}
use Rattle.st_reader.specs.Lexer.{keyword_more, keywords_length}
use Rattle.st_reader.proofs.Sorts.{letter_equals}

-- words, each closed, of which the first has lost its first letter
abbrev pub inside : List (List ℕ) → Bool
inside [] = false
inside (word ∷ [] ∷ []) = list_all is_letter_or_digit word
inside (word ∷ words) = list_all is_letter_or_digit word && are_closed_words words

-- nothing, or keywords
abbrev pub further : List ℕ → Bool
further [] = true
further (b ∷ bs) = are_keywords (b ∷ bs)

and_assoc : (x y z : Bool) → (x && y && z) ≡ (x && (y && z))
and_assoc true y z = refl
and_assoc false y z = refl

and_none : (x y : Bool) → (x && y && false) ≡ (x && false)
and_none true true = refl
and_none true false = refl
and_none false y = refl

closed_before : (b : ℕ) (ps : List (List ℕ)) → are_closed_words (before_first_part b ps) ≡ (is_letter b && inside ps)
closed_before b [] = and_none (is_letter b) true
closed_before b (p ∷ []) = and_assoc (is_letter b) (list_all is_letter_or_digit p) false
closed_before b (p ∷ [] ∷ []) = refl
closed_before b (p ∷ [] ∷ r ∷ rs) = and_assoc (is_letter b) (list_all is_letter_or_digit p) (are_closed_words ([] ∷ r ∷ rs))
closed_before b (p ∷ (c ∷ cs) ∷ ps) = and_assoc (is_letter b) (list_all is_letter_or_digit p) (are_closed_words ((c ∷ cs) ∷ ps))

inside_before : (b : ℕ) (ps : List (List ℕ)) → inside (before_first_part b ps) ≡ (is_letter_or_digit b && inside ps)
inside_before b [] = and_none (is_letter_or_digit b) true
inside_before b (p ∷ []) = and_assoc (is_letter_or_digit b) (list_all is_letter_or_digit p) false
inside_before b (p ∷ [] ∷ []) = refl
inside_before b (p ∷ [] ∷ r ∷ rs) = and_assoc (is_letter_or_digit b) (list_all is_letter_or_digit p) (are_closed_words ([] ∷ r ∷ rs))
inside_before b (p ∷ (c ∷ cs) ∷ ps) = and_assoc (is_letter_or_digit b) (list_all is_letter_or_digit p) (are_closed_words ((c ∷ cs) ∷ ps))

-- an empty word is none
no_word : (ps : List (List ℕ)) → are_closed_words ([] ∷ ps) ≡ false
no_word [] = refl
no_word ([] ∷ []) = refl
no_word ([] ∷ p ∷ ps) = refl
no_word ((c ∷ cs) ∷ ps) = refl

pub keywords_cons : (b : ℕ) (bs : List ℕ) → are_keywords (b ∷ bs) ≡ (is_letter b && inside (parts bs))
keywords_cons b bs = by (eqb b 58) refl
  where
    by : (v : Bool) → eqb b 58 ≡ v → are_keywords (b ∷ bs) ≡ (is_letter b && inside (parts bs))
    by true e =
        let same : b ≡ 58 = eqb-true b 58 e in
        rw same (no_word (parts bs))
    by false e = rw e (closed_before b (parts bs))

some_part : (bs : List ℕ) → 0 < length (parts bs)
some_part [] = omega arith
some_part (b ∷ bs) = by (eqb b 58) refl
  where
    before : (ps : List (List ℕ)) → 0 < length (before_first_part b ps)
    before [] = omega arith
    before (p ∷ ps) = omega arith

    by : (v : Bool) → eqb b 58 ≡ v → 0 < length (parts (b ∷ bs))
    by true e = rw e (omega arith)
    by false e = rw e (before (parts bs))

inside_closed : (b : ℕ) (bs : List ℕ) → inside ([] ∷ parts (b ∷ bs)) ≡ are_keywords (b ∷ bs)
inside_closed b bs = by (eqb b 58) refl
  where
    before : (ps : List (List ℕ)) → inside ([] ∷ before_first_part b ps) ≡ are_closed_words (before_first_part b ps)
    before [] = refl
    before (p ∷ ps) = refl

    empty : (ps : List (List ℕ)) → 0 < length ps → inside ([] ∷ [] ∷ ps) ≡ are_closed_words ([] ∷ ps)
    empty [] h = absurd (omega arith)
    empty (p ∷ ps) h = refl

    by : (v : Bool) → eqb b 58 ≡ v → inside ([] ∷ parts (b ∷ bs)) ≡ are_keywords (b ∷ bs)
    by true e = rw e (empty (parts bs) (some_part bs))
    by false e = rw e (before (parts bs))

pub inside_cons : (b : ℕ) (bs : List ℕ) → inside (parts (b ∷ bs)) ≡ (if eqb b 58 then further bs else (is_letter_or_digit b && inside (parts bs)))
inside_cons b bs = by (eqb b 58) refl
  where
    colon : (cs : List ℕ) → inside ([] ∷ parts cs) ≡ further cs
    colon [] = refl
    colon (c ∷ cs) = inside_closed c cs

    by : (v : Bool) → eqb b 58 ≡ v → inside (parts (b ∷ bs)) ≡ (if eqb b 58 then further bs else (is_letter_or_digit b && inside (parts bs)))
    by true e = rw e (colon bs)
    by false e = rw e (inside_before b (parts bs))

pub colon_other : (b : ℕ) → eqb b 58 ≡ true → is_letter_or_digit b ≡ false
colon_other b e = let same : b ≡ 58 = eqb-true b 58 e in rw same refl

-- a colon, and then further keywords
inside_colon : (b : ℕ) (bs : List ℕ) → eqb b 58 ≡ true → further bs ≡ true → inside (parts (b ∷ bs)) ≡ true
inside_colon b bs e f = inside_cons b bs ∙ rw e f

-- one more letter or digit of a word
inside_more : (b : ℕ) (bs : List ℕ) → is_letter_or_digit b ≡ true → inside (parts bs) ≡ true → inside (parts (b ∷ bs)) ≡ true
inside_more b bs e f =
    let other : eqb b 58 ≡ false = false_from_ne_true (eqb b 58) (λ (c : eqb b 58 ≡ true). let none = colon_other b c in absurd cc) in
    inside_cons b bs ∙ rw other (and_from _ _ e f)

inside_other : (bs : List ℕ) → inside (parts bs) ≡ true → list_all is_letter_or_digit bs ≡ false
inside_other [] e = absurd cc
inside_other (b ∷ bs) e = by (eqb b 58) refl (inside_other bs)
  where
    by : (v : Bool) → eqb b 58 ≡ v → (inside (parts bs) ≡ true → list_all is_letter_or_digit bs ≡ false) → list_all is_letter_or_digit (b ∷ bs) ≡ false
    by true h rest = and_left _ _ (colon_other b h)
    by false h rest =
        let all : (if eqb b 58 then further bs else (is_letter_or_digit b && inside (parts bs))) ≡ true = sym (inside_cons b bs) ∙ e in
        let more : (is_letter_or_digit b && inside (parts bs)) ≡ true = rw h at all in
        and_right _ _ (rest (and_parts _ _ more).1)

-- keywords are no word
pub keywords_other : (b : ℕ) (bs : List ℕ) → are_keywords (b ∷ bs) ≡ true → is_word (b ∷ bs) ≡ false
keywords_other b bs e = and_right _ _ (inside_other bs (and_parts (is_letter b) (inside (parts bs)) (sym (keywords_cons b bs) ∙ e)).1)

-- ---- the keywords at the front of a text

-- what keywords may stop before
abbrev pub Stops : List ℕ → Type 0
Stops behind = (begins_equals behind ≡ false) × (begins is_letter behind ≡ false)

-- a colon behind a word, where further keywords follow
further_colon : (bs behind : List ℕ) → further bs ≡ true → Stops behind → begins_equals (bs ++ behind) ≡ false
further_colon [] behind e stops = stops.0
further_colon (b ∷ bs) behind e stops =
    let more : (is_letter b && inside (parts bs)) ≡ true = sym (keywords_cons b bs) ∙ e in
    letter_equals b (and_parts _ _ more).0

-- where no word begins, there are none
pub none_found : (bs : List ℕ) → begins is_letter bs ≡ false → keywords_length false bs ≡ Some 0
unfolding keywords_length
none_found [] e = refl
none_found (b ∷ bs) e = rw e refl

-- what is left of keywords before a word, or inside of one
abbrev pub are_left : Bool → List ℕ → Bool
are_left true bs = inside (parts bs)
are_left false bs = further bs

-- keywords in front are found whole
pub keywords_found : (s : Bool) (bs behind : List ℕ) → are_left s bs ≡ true → Stops behind → keywords_length s (bs ++ behind) ≡ Some (length bs)
unfolding keywords_length
keywords_found true [] behind e stops = absurd cc
keywords_found false [] behind e stops = none_found behind stops.1
keywords_found false (b ∷ bs) behind e stops =
    let more = and_parts (is_letter b) (inside (parts bs)) (sym (keywords_cons b bs) ∙ e) in
    let letter : is_letter b ≡ true = more.0 in
    let rest : keywords_length true (bs ++ behind) ≡ Some (length bs) = keywords_found true bs behind more.1 stops in
    rw (letter, rest) refl
keywords_found true (b ∷ bs) behind e stops = by (eqb b 58) refl (keywords_found false bs behind) (keywords_found true bs behind)
  where
    by : (v : Bool) → eqb b 58 ≡ v → (further bs ≡ true → Stops behind → keywords_length false (bs ++ behind) ≡ Some (length bs)) → (inside (parts bs) ≡ true → Stops behind → keywords_length true (bs ++ behind) ≡ Some (length bs)) → keywords_length true (b ∷ bs ++ behind) ≡ Some (length (b ∷ bs))
    by true h out within =
        let same : b ≡ 58 = eqb-true b 58 h in
        let all : (if eqb b 58 then further bs else (is_letter_or_digit b && inside (parts bs))) ≡ true = sym (inside_cons b bs) ∙ e in
        let more : further bs ≡ true = rw h at all in
        let equals : begins_equals (bs ++ behind) ≡ false = further_colon bs behind more stops in
        let rest : keywords_length false (bs ++ behind) ≡ Some (length bs) = out more stops in
        rw (same, equals, rest) refl
    by false h out within =
        let all : (if eqb b 58 then further bs else (is_letter_or_digit b && inside (parts bs))) ≡ true = sym (inside_cons b bs) ∙ e in
        let more : (is_letter_or_digit b && inside (parts bs)) ≡ true = rw h at all in
        let both = and_parts (is_letter_or_digit b) (inside (parts bs)) more in
        let here : is_letter_or_digit b ≡ true = both.0 in
        let rest : keywords_length true (bs ++ behind) ≡ Some (length bs) = within both.1 stops in
        rw (here, rest) refl

-- ---- what is found are keywords

pub record IsNext (o : Option ℕ) (n : ℕ) : Type 0 where
  pub before : ℕ
  pub is : o ≡ Some before
  pub next : n ≡ suc before

next_of : (o : Option ℕ) (n : ℕ) → option_map suc o ≡ Some n → IsNext o n
next_of None n e = absurd cc
next_of (Some m) n e = let same : n ≡ suc m = cc in record { before = m; is = refl; next = same }

pub letter_next : (b : ℕ) (bs : List ℕ) (n : ℕ) → is_letter b ≡ true → keywords_length false (b ∷ bs) ≡ Some n → IsNext (keywords_length true bs) n
unfolding keywords_length
letter_next b bs n letter e =
    let found : option_map suc (keywords_length true bs) ≡ Some n = rw letter at e in
    next_of (keywords_length true bs) n found

-- the front of a text that has so many bytes of keywords
pub record AreKeywords (s : Bool) (bs : List ℕ) (n : ℕ) : Type 0 where
  pub left : are_left s (take n bs) ≡ true
  pub letter : begins is_letter (drop n bs) ≡ false
  pub equals : (s ≡ false → begins_equals bs ≡ false) → begins_equals (drop n bs) ≡ false

pub keywords_are : (s : Bool) (bs : List ℕ) (n : ℕ) → keywords_length s bs ≡ Some n → AreKeywords s bs n
unfolding keywords_length
keywords_are true [] n e = absurd cc
keywords_are false [] n e = let same : n ≡ 0 = cc in rw same record { left = refl; letter = refl; equals = λ _. refl }
keywords_are false (b ∷ bs) n e = by (is_letter b) refl (keywords_are true bs)
  where
    by : (v : Bool) → is_letter b ≡ v → ((m : ℕ) → keywords_length true bs ≡ Some m → AreKeywords true bs m) → AreKeywords false (b ∷ bs) n
    by true h rest =
        let found : option_map suc (keywords_length true bs) ≡ Some n = rw h at e in
        let m = next_of (keywords_length true bs) n found in
        let at = rest m.before m.is in
        let all : are_keywords (b ∷ take m.before bs) ≡ true = keywords_cons b (take m.before bs) ∙ and_from _ _ h at.left in
        let same : n ≡ suc m.before = m.next in
        rw same record { left = all; letter = at.letter; equals = λ _. at.equals (λ t. absurd cc) }
    by false h rest =
        let found : Some 0 ≡ Some n = rw h at e in
        let same : n ≡ 0 = cc in
        rw same record { left = refl; letter = h; equals = λ f. f refl }
keywords_are true (b ∷ bs) n e = by (is_letter_or_digit b) refl (keywords_are true bs) (keywords_are false bs)
  where
    by : (v : Bool) → is_letter_or_digit b ≡ v → ((m : ℕ) → keywords_length true bs ≡ Some m → AreKeywords true bs m) → ((m : ℕ) → keywords_length false bs ≡ Some m → AreKeywords false bs m) → AreKeywords true (b ∷ bs) n
    by true h within out =
        let found : option_map suc (keywords_length true bs) ≡ Some n = rw h at e in
        let m = next_of (keywords_length true bs) n found in
        let at = within m.before m.is in
        let all : inside (parts (b ∷ take m.before bs)) ≡ true = inside_more b (take m.before bs) h at.left in
        let same : n ≡ suc m.before = m.next in
        rw same record { left = all; letter = at.letter; equals = λ _. at.equals (λ t. absurd cc) }
    by false h within out = colon (begins_colon (b ∷ bs)) refl
      where
        colon : (v : Bool) → begins_colon (b ∷ bs) ≡ v → AreKeywords true (b ∷ bs) n
        colon true c =
            let found : option_map suc (keywords_length false bs) ≡ Some n = rw (h, c) at e in
            let m = next_of (keywords_length false bs) n found in
            let at = out m.before m.is in
            let both = and_parts (eqb b 58) (not (begins_equals bs)) c in
            let all : inside (parts (b ∷ take m.before bs)) ≡ true = inside_colon b (take m.before bs) both.0 at.left in
            let same : n ≡ suc m.before = m.next in
            rw same record { left = all; letter = at.letter; equals = λ _. at.equals (λ _. not-true (begins_equals bs) both.1) }
        colon false c =
            let found : None ≡ Some n = rw (h, c) at e in
            absurd cc

-- ---- one keyword after another

-- so many bytes more
abbrev pub longer : ℕ → Option ℕ → Option ℕ
longer k o = option_map (λ n. k + n) o

pub longer_longer : (j k : ℕ) (o : Option ℕ) → longer j (longer k o) ≡ longer (j + k) o
longer_longer j k None = refl
longer_longer j k (Some n) = let same : j + (k + n) ≡ j + k + n = omega arith in ap some same
  where
    some : ℕ → Option ℕ
    some m = Some m

suc_longer : (k : ℕ) (o : Option ℕ) → option_map suc (longer k o) ≡ longer (1 + k) o
suc_longer k None = refl
suc_longer k (Some n) = let same : suc (k + n) ≡ 1 + k + n = omega arith in ap some same
  where
    some : ℕ → Option ℕ
    some m = Some m

suc_one : (o : Option ℕ) → option_map suc o ≡ longer 1 o
suc_one None = refl
suc_one (Some n) = let same : suc n ≡ 1 + n = omega arith in ap some same
  where
    some : ℕ → Option ℕ
    some m = Some m

suc_choice : (v : Bool) (k : ℕ) (o : Option ℕ) → option_map suc (if v then longer k o else None) ≡ (if v then longer (1 + k) o else None)
suc_choice true k o = suc_longer k o
suc_choice false k o = refl

-- the rest of a word, its colon, and further keywords
abbrev after_word : List ℕ → Option ℕ
after_word bs = if begins_colon (drop (prefix_len is_letter_or_digit bs) bs) then longer (prefix_len is_letter_or_digit bs + 1) (keywords_length false (drop (prefix_len is_letter_or_digit bs + 1) bs)) else None

-- inside of a word: what is left of it, its colon, and further keywords
pub keywords_word : (bs : List ℕ) → keywords_length true bs ≡ after_word bs
unfolding keywords_length
keywords_word [] = refl
keywords_word (b ∷ bs) = by (is_letter_or_digit b) refl (keywords_word bs)
  where
    by : (v : Bool) → is_letter_or_digit b ≡ v → keywords_length true bs ≡ after_word bs → keywords_length true (b ∷ bs) ≡ after_word (b ∷ bs)
    by true h rest =
        let one : 1 + prefix_len is_letter_or_digit bs ≡ suc (prefix_len is_letter_or_digit bs) = omega arith in
        let two : suc (prefix_len is_letter_or_digit bs) + 1 ≡ suc (prefix_len is_letter_or_digit bs + 1) = omega arith in
        let three : 1 + (prefix_len is_letter_or_digit bs + 1) ≡ suc (prefix_len is_letter_or_digit bs + 1) = omega arith in
        let step : option_map suc (keywords_length true bs) ≡ (if begins_colon (drop (prefix_len is_letter_or_digit bs) bs) then longer (suc (prefix_len is_letter_or_digit bs + 1)) (keywords_length false (drop (prefix_len is_letter_or_digit bs + 1) bs)) else None) = ap (option_map suc) rest ∙ suc_choice (begins_colon (drop (prefix_len is_letter_or_digit bs) bs)) (prefix_len is_letter_or_digit bs + 1) (keywords_length false (drop (prefix_len is_letter_or_digit bs + 1) bs)) ∙ rw three refl in
        rw (h, one, two) step
    by false h rest = colon (begins_colon (b ∷ bs)) refl
      where
        colon : (v : Bool) → begins_colon (b ∷ bs) ≡ v → keywords_length true (b ∷ bs) ≡ after_word (b ∷ bs)
        colon true c = rw (h, c) (suc_one (keywords_length false bs))
        colon false c = rw (h, c) refl

-- a keyword in front, and further keywords behind it
keyword_next : (rest : List ℕ) (more : ℕ) → begins is_letter rest ≡ true → keyword_more (drop 1 rest) ≡ Some more → keywords_length false rest ≡ longer (more + 1) (keywords_length false (drop (more + 1) rest))
unfolding keywords_length
keyword_next [] more letter e = absurd cc
keyword_next (b ∷ bs) more letter e = by (begins_colon (drop (prefix_len is_letter_or_digit bs) bs)) refl
  where
    by : (v : Bool) → begins_colon (drop (prefix_len is_letter_or_digit bs) bs) ≡ v → keywords_length false (b ∷ bs) ≡ longer (more + 1) (keywords_length false (drop (more + 1) (b ∷ bs)))
    by true c =
        let found : Some (prefix_len is_letter_or_digit bs + 1) ≡ Some more = rw c at e in
        let long : prefix_len is_letter_or_digit bs + 1 ≡ more = cc in
        let word : keywords_length true bs ≡ after_word bs = keywords_word bs in
        let here : keywords_length true bs ≡ longer more (keywords_length false (drop more bs)) = rw (c, long) at word in
        let one : more + 1 ≡ suc more = omega arith in
        let two : 1 + more ≡ suc more = omega arith in
        rw (letter, here, suc_longer more (keywords_length false (drop more bs)), one, two) refl
    by false c =
        let found : None ≡ Some more = rw c at e in
        absurd cc

-- inside of a word that is no keyword there are none
pub keyword_none : (bs : List ℕ) → keyword_more bs ≡ None → keywords_length true bs ≡ None
keyword_none bs e = by (begins_colon (drop (prefix_len is_letter_or_digit bs) bs)) refl
  where
    by : (v : Bool) → begins_colon (drop (prefix_len is_letter_or_digit bs) bs) ≡ v → keywords_length true bs ≡ None
    by true c =
        let found : Some (prefix_len is_letter_or_digit bs + 1) ≡ None = rw c at e in
        absurd cc
    by false c =
        let word : keywords_length true bs ≡ after_word bs = keywords_word bs in
        rw c at word

word_none : (rest : List ℕ) → begins is_letter rest ≡ true → keyword_more (drop 1 rest) ≡ None → keywords_length false rest ≡ None
unfolding keywords_length
word_none [] letter e = absurd cc
word_none (b ∷ bs) letter e =
    let none : keywords_length true bs ≡ None = keyword_none bs e in
    rw (letter, none) refl

-- ---- the loop over the keywords

pub more_keywords : (text : List ℕ) (n more : ℕ) → begins is_letter (drop n text) ≡ true → keyword_more (drop (n + 1) text) ≡ Some more → keywords_length false text ≡ longer n (keywords_length false (drop n text)) → keywords_length false text ≡ longer (n + (more + 1)) (keywords_length false (drop (n + (more + 1)) text))
more_keywords text n more letter e same =
    let first : keyword_more (drop 1 (drop n text)) ≡ Some more = ap keyword_more (drop-drop 1 n text) ∙ e in
    let next : keywords_length false (drop n text) ≡ longer (more + 1) (keywords_length false (drop (more + 1) (drop n text))) = keyword_next (drop n text) more letter first in
    same ∙ ap (longer n) next ∙ longer_longer n (more + 1) (keywords_length false (drop (more + 1) (drop n text))) ∙ ap (λ (l : List ℕ). longer (n + (more + 1)) (keywords_length false l)) (drop-drop (more + 1) n text)

pub other_word : (text : List ℕ) (n : ℕ) → begins is_letter (drop n text) ≡ true → keyword_more (drop (n + 1) text) ≡ None → keywords_length false text ≡ longer n (keywords_length false (drop n text)) → None ≡ keywords_length false text
other_word text n letter e same =
    let first : keyword_more (drop 1 (drop n text)) ≡ None = ap keyword_more (drop-drop 1 n text) ∙ e in
    let none : keywords_length false (drop n text) ≡ None = word_none (drop n text) letter first in
    sym (same ∙ ap (longer n) none)

pub no_more_keywords : (text : List ℕ) (n : ℕ) → begins is_letter (drop n text) ≡ false → keywords_length false text ≡ longer n (keywords_length false (drop n text)) → Some n ≡ keywords_length false text
no_more_keywords text n letter same =
    let none : keywords_length false (drop n text) ≡ Some 0 = none_found (drop n text) letter in
    let long : n + 0 ≡ n = omega arith in
    sym (same ∙ ap (longer n) none ∙ ap some long)
  where
    some : ℕ → Option ℕ
    some m = Some m
