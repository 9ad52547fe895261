-- What is at the front of the bytes that a codec was given.
use Rattle.std.proofs.Common.{◌≡◌, ℕ, ◌+◌, ◌-◌, ◌<◌, ◌≤◌, ◌==◌, Bool, true, false, List, [], ◌∷◌, ◌++◌, length, take, drop, Some, None, position, nat_lt, if◌then◌else◌, refl, sym, ap, ◌∙◌, subst, arith, cond, inl, inr, length-append, length-take}
use Rattle.std.specs.List.{position_or_len}
use Rattle.std.proofs.lemmas.List.{take-append-le, drop-append-le}
use Rattle.std.proofs.lemmas.Bool.{cases_lt}
use Rattle.std.proofs.lemmas.Bool.Decides.{nat_tests}
use Rattle.std.specs.Str.{IsUtf8}
use Rattle.st_classes.specs.declared.refusals.Refusal.TheVariants.{TooLong, BadCommand}
use Rattle.tokio_util.specs.Codec.Lines.{newline_from, without_carriage_return, Scan, line, too_long, unfinished, read_line}
use Rattle.tokio_util.specs.Codec.LinesLaws.{newline_from-append_found, newline_from-append_missing, read_line_found, read_line_long, read_line_short}
use Rattle.st_session.specs.Lines.{lines_of, lines, last_line, ends_with}
use Rattle.st_session.specs.Cuts.{CutsOff, IsOpen, HasFirst}
use Rattle.st_session.proofs.FirstLine.{parts_at, lines_next, lines_whole, not_found}
use Rattle.st_session.proofs.Ending.{ends_none, ends_no_text}
use Rattle.st_session.proofs.Stripping.{utf8_in, utf8_out, ends_with_return, stripped}

-- the place of the first newline, as std finds it
place : (xs : List ℕ) → newline_from 0 xs ≡ position_or_len (λ b. b == 10) xs
unfolding newline_from
place xs = omega arith

found_at : (n m : ℕ) → n < m → cond (nat_lt n m) (Some n) None ≡ Some n
found_at n m h = grind (arith, nat_tests)

missing_at : (n m : ℕ) → m ≤ n → cond (nat_lt n m) (Some n) None ≡ None
missing_at n m h = grind (arith, nat_tests)

-- the bytes have a newline, and no more than 8,192 before the first
pub record HasLine (xs : List ℕ) : Type 0 where
  pub within : newline_from 0 xs < length xs
  pub short : newline_from 0 xs ≤ 8192

-- they have more than 8,192, and no newline before
pub record IsLong (xs : List ℕ) : Type 0 where
  pub far : 8192 < newline_from 0 xs
  pub long : 8192 < length xs

-- they have no more than 8,192, and no newline
pub record IsShort (xs : List ℕ) : Type 0 where
  pub missing : length xs ≤ newline_from 0 xs
  pub few : length xs ≤ 8192

abbrev pub line_of : List ℕ → List ℕ
line_of xs = take (newline_from 0 xs) xs

abbrev pub rest_of : List ℕ → List ℕ
rest_of xs = drop (newline_from 0 xs + 1) xs

-- whatever comes behind, the line is the first
pub line_cut : (xs : List ℕ) → HasLine xs → CutsOff xs (line_of xs ∷ []) (rest_of xs)
line_cut xs h more =
    let n = newline_from 0 xs in
    let long : length (xs ++ more) ≡ length xs + length more = length-append xs more in
    let same : newline_from 0 (xs ++ more) ≡ n = newline_from-append_found 0 xs more h.within in
    let at : position_or_len (λ b. b == 10) (xs ++ more) ≡ n = sym (place (xs ++ more)) ∙ same in
    let front : n ≤ length xs = omega (arith, h.within) in
    let back : n + 1 ≤ length xs = omega (arith, h.within) in
    let found : position (λ b. b == 10) (xs ++ more) ≡ Some n = rw at (found_at n (length (xs ++ more)) (omega (arith, h.within))) in
    parts_at (xs ++ more) n found ∙ rw (take-append-le n xs more front, drop-append-le (n + 1) xs more back) refl

-- a part that is cut off is the first line
pub first_cut : (P : List ℕ → Type 0) (xs first left : List ℕ) → CutsOff xs (first ∷ []) left → P first → HasFirst P xs
first_cut P xs first left cut p more = (first, lines (left ++ more), ap lines_of (cut more) ∙ lines_next first (left ++ more), p)

-- what is longer than a line may be is no line yet, whatever comes behind
pub long_first : (xs : List ℕ) → IsLong xs → HasFirst (λ l. ends_with l ≡ Some TooLong) xs
long_first xs h more =
    let ys = xs ++ more in
    let n = newline_from 0 ys in
    let long : length ys ≡ length xs + length more = length-append xs more in
    let far : 8192 < n = far_on xs h more in
    elim (cases_lt n (length ys)) [
      | inl found ↦
          let at : position (λ b. b == 10) ys ≡ Some n = rw (sym (place ys)) (found_at n (length ys) found) in
          (take n ys, lines (drop (n + 1) ys), ap lines_of (parts_at ys n at) ∙ lines_next (take n ys) (drop (n + 1) ys), too_long_at (take n ys) (omega (arith, length-take n ys)))
      | inr missing ↦
          let at : position (λ b. b == 10) ys ≡ None = rw (sym (place ys)) (missing_at n (length ys) missing) in
          (ys, [], lines_whole ys at ∙ last_more ys (omega (arith, h.long)), too_long_at ys (omega (arith, h.long)))
    ]
  where
    too_long_at : (l : List ℕ) → 8192 < length l → ends_with l ≡ Some TooLong
    too_long_at l over = let t : nat_lt 8192 (length l) ≡ true = grind (arith, nat_tests) in rw t refl

    far_on : (xs : List ℕ) → IsLong xs → (more : List ℕ) → 8192 < newline_from 0 (xs ++ more)
    far_on xs h more =
        elim (cases_lt (newline_from 0 xs) (length xs)) [
          | inl found ↦ rw (newline_from-append_found 0 xs more found) h.far
          | inr missing ↦ rw (newline_from-append_missing 0 xs more (omega arith) missing) (omega (arith, h.long))
        ]

    last_more : (rest : List ℕ) → 2 ≤ length rest → last_line rest ≡ rest ∷ []
    last_more [] h = absurd (omega arith)
    last_more (b ∷ []) h = absurd (omega arith)
    last_more (b ∷ c ∷ bs) h = refl

-- a line of text, or one that is no text
pub is_text : (xs : List ℕ) → HasLine xs → IsUtf8 (without_carriage_return (line_of xs)) → ends_with (line_of xs) ≡ None
is_text xs h u = sym (ends_none (line_of xs) (omega (arith, h.short, length-take (newline_from 0 xs) xs)) (utf8_in (line_of xs) u))

pub is_no_text : (xs : List ℕ) → HasLine xs → (IsUtf8 (without_carriage_return (line_of xs)) → ⊥) → ends_with (line_of xs) ≡ Some BadCommand
is_no_text xs h never = sym (ends_no_text (line_of xs) (omega (arith, h.short, length-take (newline_from 0 xs) xs)) (λ u. never (utf8_out (line_of xs) u)))

-- what is read of the bytes at the start of a line: a line, one that is too long, or none yet
pub data Reads (xs : List ℕ) : Scan → Type 0 where
  reads_line : HasLine xs → Reads xs (line (without_carriage_return (line_of xs)) (rest_of xs))
  reads_long : IsLong xs → Reads xs (too_long xs)
  reads_none : IsShort xs → Reads xs (unfinished false xs)

pub reads : (xs : List ℕ) → Reads xs (read_line 8192 0 xs)
reads xs =
    let n = newline_from 0 xs in
    elim (cases_lt 8192 n) [
      | inl far ↦ elim (cases_lt 8192 (length xs)) [
        | inl long ↦ subst (λ (s : Scan). Reads xs s) (sym (read_line_long 8192 0 xs far long)) (reads_long (record { far = far; long = long }))
        | inr short ↦ subst (λ (s : Scan). Reads xs s) (sym (read_line_short 8192 0 xs (omega arith) short)) (reads_none (record { missing = omega arith; few = short }))
      ]
      | inr near ↦ elim (cases_lt n (length xs)) [
        | inl found ↦ subst (λ (s : Scan). Reads xs s) (sym (read_line_found 8192 0 xs found near)) (reads_line (record { within = found; short = near }))
        | inr missing ↦ subst (λ (s : Scan). Reads xs s) (sym (read_line_short 8192 0 xs missing (omega arith))) (reads_none (record { missing = missing; few = omega arith }))
      ]
    ]

-- ---- bytes without a newline

pub short_open : (xs : List ℕ) → IsShort xs → IsOpen xs
short_open xs h = (rw (sym (place xs)) (missing_at (newline_from 0 xs) (length xs) h.missing), h.few)

pub open_short : (xs : List ℕ) → IsOpen xs → IsShort xs
open_short xs h = record { missing = rw (place xs) (not_found _ _ h.0); few = h.1 }

pub scan_short : (xs : List ℕ) → IsOpen xs → read_line 8192 0 xs ≡ unfinished false xs
scan_short xs h = let s = open_short xs h in read_line_short 8192 0 xs s.missing s.few

stays_by : (xs : List ℕ) (t : Bool) → 2 ≤ length xs → 0 < length (cond t (take (length xs - 1) xs) xs)
stays_by xs true h = omega (arith, length-take (length xs - 1) xs)
stays_by xs false h = omega arith

stays : (xs : List ℕ) → 2 ≤ length xs → 0 < length (without_carriage_return xs)
stays xs h = rw (stripped xs (ends_with_return xs) refl) (stays_by xs (ends_with_return xs) h)

no_line : (xs : List ℕ) → without_carriage_return xs ≡ [] → last_line xs ≡ []
unfolding without_carriage_return
no_line [] e = refl
no_line (b ∷ []) e = elim (b == 13) as (λ t. (if t then take 0 (b ∷ []) else b ∷ []) ≡ [] → (if t then [] else (b ∷ []) ∷ []) ≡ []) [ true ↦ λ _. refl | false ↦ λ f. absurd (cc f) ] e
no_line (b ∷ c ∷ bs) e = absurd (let l = stays (b ∷ c ∷ bs) (omega arith) in omega (arith, ap length e))

one_line : (xs : List ℕ) → 0 < length (without_carriage_return xs) → last_line xs ≡ xs ∷ []
unfolding without_carriage_return
one_line [] h = absurd (omega arith)
one_line (b ∷ []) h = elim (b == 13) as (λ t. 0 < length (if t then take 0 (b ∷ []) else b ∷ []) → (if t then [] else (b ∷ []) ∷ []) ≡ (b ∷ []) ∷ []) [ true ↦ λ f. absurd (omega arith) | false ↦ λ _. refl ] h
one_line (b ∷ c ∷ bs) h = refl

pub lines_none_left : (xs : List ℕ) → IsOpen xs → without_carriage_return xs ≡ [] → lines xs ≡ []
lines_none_left xs h e = lines_whole xs h.0 ∙ no_line xs e

pub lines_one_left : (xs : List ℕ) → IsOpen xs → 0 < length (without_carriage_return xs) → lines xs ≡ xs ∷ []
lines_one_left xs h e = lines_whole xs h.0 ∙ one_line xs e

pub last_is_text : (xs : List ℕ) → IsOpen xs → IsUtf8 (without_carriage_return xs) → ends_with xs ≡ None
last_is_text xs h u = sym (ends_none xs h.1 (utf8_in xs u))

pub last_is_no_text : (xs : List ℕ) → IsOpen xs → (IsUtf8 (without_carriage_return xs) → ⊥) → ends_with xs ≡ Some BadCommand
last_is_no_text xs h never = sym (ends_no_text xs h.1 (λ u. never (utf8_out xs u)))
