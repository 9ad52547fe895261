-- A text is cut at its first newline.
use Rattle.std.proofs.Common.{◌≡◌, ℕ, zero, suc, ◌+◌, ◌<◌, ◌≤◌, ◌==◌, Bool, true, false, cond, nat_lt, List, [], ◌∷◌, length, get_or, take, drop, Some, None, position, arith, add-one}
use Rattle.std.specs.List.{position_or_len}
use Rattle.std.proofs.lemmas.Bool.Decides.{nat_tests}
use Rattle.std.proofs.lemmas.List.Quantifiers.{position-Some}
use Rattle.std.proofs.lemmas.List.Sums.{fails_before_first}
use Rattle.st_journal.specs.EntryTexts.{lines_of}

abbrev is_newline : ℕ → Bool
is_newline b = b == 10

cut : (text : List ℕ) (n : ℕ) → n < length text → is_newline (get_or text n 0) ≡ true → ((k : ℕ) → k < n → is_newline (get_or text k 0) ≡ false) → lines_of text ≡ take n text ∷ lines_of (drop (suc n) text)
cut [] n h e before = absurd (omega arith)
cut (b ∷ bs) zero h e before = rw e
cut (b ∷ bs) (suc n) h e before = rw (before 0 (omega arith), cut bs n (omega arith) e (λ k l. before (suc k) (omega arith)))

uncut : (b : ℕ) (bs : List ℕ) → ((k : ℕ) → k < length (b ∷ bs) → is_newline (get_or (b ∷ bs) k 0) ≡ false) → lines_of (b ∷ bs) ≡ (b ∷ bs) ∷ []
uncut b [] none = rw (none 0 (omega arith))
uncut b (c ∷ bs) none = rw (none 0 (omega arith), uncut c bs (λ k l. none (suc k) (omega arith)))

not_found : (n m : ℕ) → cond (nat_lt n m) (Some n) None ≡ None → m ≤ n
not_found n m e = grind (arith, nat_tests)

-- where there is a newline
pub line_at : (text : List ℕ) (n : ℕ) → position (λ b. b == 10) text ≡ Some n → lines_of text ≡ take n text ∷ lines_of (drop (n + 1) text)
line_at text n e =
    let found = position-Some is_newline text n 0 e in
    let here : lines_of text ≡ take n text ∷ lines_of (drop (suc n) text) = cut text n found.0 found.1 found.2 in
    rw add-one here

-- where there is none
pub line_whole : (text : List ℕ) → 0 < length text → position (λ b. b == 10) text ≡ None → lines_of text ≡ text ∷ []
line_whole [] some e = absurd (omega arith)
line_whole (b ∷ bs) some e =
    uncut b bs (λ k l. fails_before_first is_newline (b ∷ bs) k 0 (let h : length (b ∷ bs) ≤ position_or_len is_newline (b ∷ bs) = not_found _ _ e in omega arith))
