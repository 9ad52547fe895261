-- The first line of a text.
use Rattle.std.proofs.Common.{◌≡◌, ℕ, zero, suc, ◌+◌, ◌<◌, ◌≤◌, ◌==◌, Bool, true, false, cond, List, [], ◌∷◌, ◌++◌, length, get_or, take, drop, Some, None, position, if◌then◌else◌, refl, ap, arith, add-one, nat_lt}
use Rattle.std.specs.List.{position_or_len, onto_first}
use Rattle.std.proofs.lemmas.Bool.Decides.{nat_tests}
use Rattle.std.proofs.lemmas.List.Quantifiers.{position-Some}
use Rattle.std.proofs.lemmas.List.Sums.{fails_before_first}
use Rattle.st_session.specs.Lines.{parts, last_line, lines_of, lines, before_last}

abbrev is_newline : ℕ → Bool
is_newline b = b == 10

lines_more : (line : List ℕ) (b : ℕ) (ps : List (List ℕ)) → lines_of (line ∷ onto_first b ps) ≡ line ∷ lines_of (onto_first b ps)
lines_more line b [] = refl
lines_more line b (p ∷ ps) = refl

pub lines_next : (line text : List ℕ) → lines_of (line ∷ parts text) ≡ line ∷ lines text
lines_next line [] = refl
lines_next line (b ∷ bs) = elim (b == 10) as (λ t. lines_of (line ∷ (if t then [] ∷ parts bs else onto_first b (parts bs))) ≡ line ∷ lines_of (if t then [] ∷ parts bs else onto_first b (parts bs))) [ true ↦ refl | false ↦ lines_more line b (parts bs) ]

-- lines before a text
pub lines_after : (front : List (List ℕ)) (text : List ℕ) → lines_of (front ++ parts text) ≡ front ++ lines text
lines_after [] text = refl
lines_after (line ∷ []) text = lines_next line text
lines_after (line ∷ next ∷ rest) text = ap (λ ls. line ∷ ls) (lines_after (next ∷ rest) text)

pub before_one : (front : List (List ℕ)) (part : List ℕ) → before_last (front ++ part ∷ []) ≡ front
before_one [] part = refl
before_one (line ∷ []) part = refl
before_one (line ∷ next ∷ rest) part = ap (λ ls. line ∷ ls) (before_one (next ∷ rest) part)

parts_cut : (text : List ℕ) (n : ℕ) → n < length text → is_newline (get_or text n 0) ≡ true → ((k : ℕ) → k < n → is_newline (get_or text k 0) ≡ false) → parts text ≡ take n text ∷ parts (drop (suc n) text)
parts_cut [] n h e before = absurd (omega arith)
parts_cut (b ∷ bs) zero h e before = rw e
parts_cut (b ∷ bs) (suc n) h e before = rw (before 0 (omega arith), parts_cut bs n (omega arith) e (λ k l. before (suc k) (omega arith)))

parts_none : (text : List ℕ) → ((k : ℕ) → k < length text → is_newline (get_or text k 0) ≡ false) → parts text ≡ text ∷ []
parts_none [] none = refl
parts_none (b ∷ bs) none = rw (none 0 (omega arith), parts_none bs (λ k l. none (suc k) (omega arith)))

pub not_found : (n m : ℕ) → cond (nat_lt n m) (Some n) None ≡ None → m ≤ n
not_found n m e = grind (arith, nat_tests)

-- where there is no newline
pub parts_whole : (text : List ℕ) → position (λ b. b == 10) text ≡ None → parts text ≡ text ∷ []
parts_whole text e = parts_none text (λ k l. fails_before_first is_newline text k 0 (let h : length text ≤ position_or_len is_newline text = not_found _ _ e in omega arith))

pub lines_whole : (text : List ℕ) → position (λ b. b == 10) text ≡ None → lines text ≡ last_line text
lines_whole text e = rw (parts_whole text e) refl

-- where there is one
pub parts_at : (text : List ℕ) (n : ℕ) → position (λ b. b == 10) text ≡ Some n → parts text ≡ take n text ∷ parts (drop (n + 1) text)
parts_at text n e =
    let found = position-Some is_newline text n 0 e in
    let cut : parts text ≡ take n text ∷ parts (drop (suc n) text) = parts_cut text n found.0 found.1 found.2 in
    rw add-one cut

-- a part has a newline before the next one
some_onto : (b : ℕ) (ps : List (List ℕ)) → 1 ≤ length (onto_first b ps)
some_onto b [] = omega arith
some_onto b (p ∷ ps) = omega arith

pub parts_some : (text : List ℕ) → 1 ≤ length (parts text)
parts_some [] = omega arith
parts_some (b ∷ bs) = elim (b == 10) as (λ t. 1 ≤ length (if t then [] ∷ parts bs else onto_first b (parts bs))) [ true ↦ omega arith | false ↦ some_onto b (parts bs) ]

short_onto : (b : ℕ) (ps : List (List ℕ)) (n : ℕ) → 1 ≤ length ps → length ps ≤ n + 1 → length (onto_first b ps) ≤ suc n + 1
short_onto b [] n some h = omega arith
short_onto b (p ∷ ps) n some h = omega arith

pub parts_short : (text : List ℕ) → length (parts text) ≤ length text + 1
parts_short [] = omega arith
parts_short (b ∷ bs) =
    let h = parts_short bs in
    elim (b == 10) as (λ t. length (if t then [] ∷ parts bs else onto_first b (parts bs)) ≤ suc (length bs) + 1) [ true ↦ omega arith | false ↦ short_onto b (parts bs) (length bs) (parts_some bs) h ]
