-- What is taken off the pending bytes.
use Rattle.std.proofs.Common.{◌≡◌, ℕ, ◌<◌, ◌+◌, true, false, length, drop, None, arith, List, [], ◌++◌, Ok, Err, String, Global, Some, sym, ap, subst, inl, inr, append-nil}
use Rattle.std.specs.Str.{IsUtf8}
use Rattle.std.proofs.lemmas.Str.{IsUtf8-string_bytes}
use Rattle.std.proofs.lemmas.List.{length-drop}
use Rattle.std.proofs.lemmas.Bool.{cases_lt}
use Rattle.st_classes.specs.declared.refusals.Refusal.TheVariants.{BadCommand}
use Rattle.tokio_util.specs.declared.codec.lines_codec.LinesCodec.{LinesCodec}
use Rattle.tokio_util.specs.declared.codec.lines_codec.LinesCodecError.{LinesCodecError}
use Rattle.tokio_util.specs.declared.codec.lines_codec.LinesCodecError.TheVariants.{MaxLineLengthExceeded, Io}
use Rattle.tokio_util.specs.Codec.Next.{Next, decoded, partial, Resumes}
use Rattle.tokio_util.specs.Codec.Lines.{at_line_start, newline_from, Scan, line, too_long, unfinished, read_line, skip_line, scan, Answers, IsUnfinished, gives_lines}
use Rattle.tokio_util.specs.Codec.LinesLaws.{read_line_found, read_line_long, read_line_short, skip_line_found, skip_line_missing}
use Rattle.st_session.specs.Lines.{ends_with}
use Rattle.st_session.specs.Cuts.{Holds, IsOpen, IsSaidBy, IsShorter, Takes}
use Rattle.st_session.specs.declared.unread.Cut.{Cut}
use Rattle.st_session.specs.declared.unread.Cut.TheVariants as cut
use Rattle.st_session.specs.declared.unread.Unread.{Unread}
use Rattle.st_session.proofs.Front.{Reads, reads_line, reads_long, reads_none, reads, line_of, rest_of, line_cut, first_cut, long_first, is_text, is_no_text, short_open}

-- what comes out of the codec comes out of the pending bytes
pub now : (p : List ℕ) (u : Unread) (next : Next LinesCodec (String Global) LinesCodecError) → Holds p u → gives_lines u.codec u.bytes.items next → gives_lines (at_line_start 8192) p next
now p u next h g =
    subst (λ (xs : List ℕ). gives_lines (at_line_start 8192) xs next) (append-nil p) (h [] next (subst (λ (xs : List ℕ). gives_lines u.codec xs next) (sym (append-nil u.bytes.items)) g))

pub held : (left : List ℕ) (u : Unread) → u.codec ≡ at_line_start 8192 → u.bytes.items ≡ left → Holds left u
held left u e f more next g =
    subst (λ (c : LinesCodec). gives_lines c (left ++ more) next) e (subst (λ (xs : List ℕ). gives_lines u.codec (xs ++ more) next) f g)

-- ---- a line

text_at : (p : List ℕ) (s : Scan) (text : String Global) (u : Unread) → Reads p s → Answers 8192 s (Ok text) u.codec u.bytes.items → Takes p (cut.Line text) u
text_at p _ text u (reads_line h) (inl a) =
    (line_of p, rest_of p, line_cut p h, is_text p h (subst IsUtf8 a.0 (IsUtf8-string_bytes text)), a.0, held (rest_of p) u a.1 a.2)
text_at p _ text u (reads_line h) (inr a) = absurd a.0
text_at p _ text u (reads_long h) a = absurd (cc (a.0))
text_at p _ text u (reads_none h) a = absurd a

pub takes_text : (p : List ℕ) (before u : Unread) (text : String Global) → Holds p before → gives_lines before.codec before.bytes.items (decoded (Ok text) u.codec u.bytes.items) → Takes p (cut.Line text) u
takes_text p before u text h g = text_at p _ text u (reads p) (now p before (decoded (Ok text) u.codec u.bytes.items) h g)

-- ---- none yet

open_at : (p : List ℕ) (s : Scan) → Reads p s → IsUnfinished s → IsOpen p
open_at p _ (reads_line h) a = absurd a
open_at p _ (reads_long h) a = absurd a
open_at p _ (reads_none h) a = short_open p h

pub takes_none : (p : List ℕ) (before u : Unread) → Holds p before → gives_lines u.codec u.bytes.items partial → Resumes gives_lines before.codec before.bytes.items u.codec u.bytes.items → Takes p cut.Partial u
takes_none p before u h g r =
    let holds : Holds p u = λ more next n. h more next (r more next n) in
    (open_at p _ (reads p) (now p u partial holds g), holds)

-- ---- an error

error_at : (p : List ℕ) (s : Scan) (e : LinesCodecError) (c : Cut) (u : Unread) → Reads p s → Answers 8192 s (Err e) u.codec u.bytes.items → IsSaidBy e c → Takes p c u
error_at p _ MaxLineLengthExceeded c u (reads_line h) (inl a) is = absurd a.0
error_at p _ MaxLineLengthExceeded c u (reads_line h) (inr a) is = absurd a.0
error_at p _ MaxLineLengthExceeded c u (reads_long h) a is = subst (λ (x : Cut). Takes p x u) (sym is) (long_first p h)
error_at p _ MaxLineLengthExceeded c u (reads_none h) a is = absurd a
error_at p _ (Io e) c u (reads_line h) (inl a) (inl is) = subst (λ (x : Cut). Takes p x u) (sym is.1) (first_cut (λ l. ends_with l ≡ Some BadCommand) p (line_of p) (rest_of p) (line_cut p h) (is_no_text p h a.0.1))
error_at p _ (Io e) c u (reads_line h) (inl a) (inr is) = absurd (is.0 a.0.0)
error_at p _ (Io e) c u (reads_line h) (inr a) (inl is) = absurd (cc (is.0, a.0))
error_at p _ (Io e) c u (reads_line h) (inr a) (inr is) = subst (λ (x : Cut). Takes p x u) (sym is.1) (first_cut (λ l. ends_with l ≡ None) p (line_of p) (rest_of p) (line_cut p h) (is_text p h a.1))
error_at p _ (Io e) c u (reads_long h) a is = absurd (cc (a.0))
error_at p _ (Io e) c u (reads_none h) a is = absurd a

pub takes_error : (p : List ℕ) (before u : Unread) (e : LinesCodecError) (c : Cut) → Holds p before → gives_lines before.codec before.bytes.items (decoded (Err e) u.codec u.bytes.items) → IsSaidBy e c → Takes p c u
takes_error p before u e c h g is = error_at p _ e c u (reads p) (now p before (decoded (Err e) u.codec u.bytes.items) h g) is

-- an error takes no line
pub error_no_shorter : (e : LinesCodecError) (c : Cut) (before after : ℕ) → IsSaidBy e c → IsShorter c before after
error_no_shorter MaxLineLengthExceeded c before after is = subst (λ (x : Cut). IsShorter x before after) (sym is) tt
error_no_shorter (Io e) c before after (inl is) = subst (λ (x : Cut). IsShorter x before after) (sym is.1) tt
error_no_shorter (Io e) c before after (inr is) = subst (λ (x : Cut). IsShorter x before after) (sym is.1) tt

-- ---- a line takes a byte or more

abbrev RestIsShorter : ℕ → Scan → Type 0
RestIsShorter n (line text rest) = length rest < n
RestIsShorter n (too_long rest) = Unit {0}
RestIsShorter n (unfinished b kept) = Unit {0}

read_shorter : (max from : ℕ) (xs : List ℕ) → RestIsShorter (length xs) (read_line max from xs)
read_shorter max from xs =
    let n = newline_from from xs in
    let P = λ (s : Scan). RestIsShorter (length xs) s in
    elim (cases_lt max n) [
      | inl far ↦ elim (cases_lt max (length xs)) [
        | inl long ↦ subst P (sym (read_line_long max from xs far long)) tt
        | inr short ↦ subst P (sym (read_line_short max from xs (omega arith) short)) tt
      ]
      | inr near ↦ elim (cases_lt n (length xs)) [
        | inl found ↦ subst P (sym (read_line_found max from xs found near)) (omega (arith, length-drop (n + 1) xs))
        | inr missing ↦ subst P (sym (read_line_short max from xs missing (omega arith))) tt
      ]
    ]

longer : (n m : ℕ) (s : Scan) → n < m → RestIsShorter n s → RestIsShorter m s
longer n m (line text rest) h r = omega arith
longer n m (too_long rest) h r = tt
longer n m (unfinished b kept) h r = tt

skip_shorter : (max : ℕ) (xs : List ℕ) → RestIsShorter (length xs) (skip_line max xs)
skip_shorter max xs =
    let n = newline_from 0 xs in
    let P = λ (s : Scan). RestIsShorter (length xs) s in
    elim (cases_lt n (length xs)) [
      | inl found ↦ subst P (sym (skip_line_found max xs found)) (longer (length (drop (n + 1) xs)) (length xs) (read_line max 0 (drop (n + 1) xs)) (omega (arith, length-drop (n + 1) xs)) (read_shorter max 0 (drop (n + 1) xs)))
      | inr missing ↦ subst P (sym (skip_line_missing max xs missing)) tt
    ]

scan_shorter : (c : LinesCodec) (xs : List ℕ) → RestIsShorter (length xs) (scan c xs)
scan_shorter c xs =
    elim c.is_discarding as (λ b. RestIsShorter (length xs) (scan (record c { is_discarding = b }) xs)) [
      | true ↦ skip_shorter c.max_length xs
      | false ↦ read_shorter c.max_length c.next_index xs
    ]

text_shorter : (n max : ℕ) (s : Scan) (text : String Global) (t : LinesCodec) (ys : List ℕ) → RestIsShorter n s → Answers max s (Ok text) t ys → length ys < n
text_shorter n max (line text rest) got t ys r (inl a) = omega (arith, ap length a.2)
text_shorter n max (line text rest) got t ys r (inr a) = absurd a.0
text_shorter n max (too_long rest) got t ys r a = absurd (cc (a.0))
text_shorter n max (unfinished b kept) got t ys r a = absurd a

pub takes_byte : (c : LinesCodec) (xs : List ℕ) (text : String Global) (t : LinesCodec) (ys : List ℕ) → gives_lines c xs (decoded (Ok text) t ys) → length ys < length xs
takes_byte c xs text t ys g = text_shorter (length xs) c.max_length (scan c xs) text t ys (scan_shorter c xs) g
