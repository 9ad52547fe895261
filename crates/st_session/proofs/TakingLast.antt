-- What is taken where the input has ended.
use Rattle.std.proofs.Common.{ℕ, ◌<◌, length, None, arith, List, [], ◌∷◌, Ok, Err, Option, Result, String, Global, Some, sym, subst, inl, inr}
use Rattle.std.specs.Str.{IsUtf8}
use Rattle.std.proofs.lemmas.Str.{IsUtf8-string_bytes, IsUtf8-nil}
use Rattle.tokio_util.specs.declared.codec.lines_codec.LinesCodecError.{LinesCodecError}
use Rattle.tokio_util.specs.declared.codec.lines_codec.LinesCodecError.TheVariants.{MaxLineLengthExceeded, Io}
use Rattle.tokio_util.specs.Codec.Next.{decoded, at_end, DecodesAtEnd}
use Rattle.tokio_util.specs.Codec.Lines.{Scan, Answers, AnswersAtEnd, AnswersLast, without_carriage_return, gives_lines}
use Rattle.st_session.specs.Cuts.{Holds, IsOpen, IsSaidBy, TakesLast}
use Rattle.st_session.specs.declared.unread.Cut.{Cut}
use Rattle.st_session.specs.declared.unread.Cut.TheVariants as cut
use Rattle.st_session.specs.declared.unread.Unread.{Unread}
use Rattle.st_session.proofs.Front.{scan_short, lines_none_left, lines_one_left, last_is_text, last_is_no_text}
use Rattle.st_session.proofs.Taking.{now}

-- no whole line is there, so what comes is the last part
last_part : (p : List ℕ) (before u : Unread) (r : Result (Option (String Global)) LinesCodecError) → Holds p before → IsOpen p → gives_lines before.codec before.bytes.items (at_end r u.codec u.bytes.items) → AnswersLast p r u.bytes.items
last_part p before u r h none g =
    let a = subst (λ (s : Scan). AnswersAtEnd 8192 s r u.codec u.bytes.items) (scan_short p none) (now p before (at_end r u.codec u.bytes.items) h g) in a.0

none_whole : (p : List ℕ) (before u : Unread) (r : Result (String Global) LinesCodecError) → Holds p before → IsOpen p → gives_lines before.codec before.bytes.items (decoded r u.codec u.bytes.items) → ⊥
none_whole p before u r h none g =
    subst (λ (s : Scan). Answers 8192 s r u.codec u.bytes.items) (scan_short p none) (now p before (decoded r u.codec u.bytes.items) h g)

last_text : (p : List ℕ) (text : String Global) (ys : List ℕ) → IsOpen p → AnswersLast p (Ok (Some text)) ys → TakesLast p (cut.Line text)
last_text p text ys none a = (lines_one_left p none a.0, last_is_text p none (subst IsUtf8 a.1 (IsUtf8-string_bytes text)), a.1)

pub takes_last_text : (p : List ℕ) (before u : Unread) (text : String Global) → Holds p before → IsOpen p → DecodesAtEnd gives_lines before.codec before.bytes.items (Ok (Some text)) u.codec u.bytes.items → TakesLast p (cut.Line text)
takes_last_text p before u text h none (inl d) = absurd (none_whole p before u (Ok text) h none d)
takes_last_text p before u text h none (inr d) = last_text p text u.bytes.items none (last_part p before u (Ok (Some text)) h none d)

pub takes_last_none : (p : List ℕ) (before u : Unread) → Holds p before → IsOpen p → DecodesAtEnd gives_lines before.codec before.bytes.items (Ok None) u.codec u.bytes.items → TakesLast p cut.Partial
takes_last_none p before u h none d = let a = last_part p before u (Ok None) h none d in lines_none_left p none a.0

not_empty : (ys : List ℕ) → (IsUtf8 ys → ⊥) → 0 < length ys
not_empty [] never = absurd (never IsUtf8-nil)
not_empty (y ∷ ys) never = omega arith

last_error : (p : List ℕ) (e : LinesCodecError) (c : Cut) (ys : List ℕ) → IsOpen p → AnswersLast p (Err e) ys → IsSaidBy e c → TakesLast p c
last_error p MaxLineLengthExceeded c ys none (inl a) is = absurd a.0
last_error p MaxLineLengthExceeded c ys none (inr a) is = absurd a.0
last_error p (Io e) c ys none (inl a) (inl is) = subst (TakesLast p) (sym is.1) (lines_one_left p none (not_empty (without_carriage_return p) a.0.1), last_is_no_text p none a.0.1)
last_error p (Io e) c ys none (inl a) (inr is) = absurd (is.0 a.0.0)
last_error p (Io e) c ys none (inr a) (inl is) = absurd (cc (is.0, a.0))
last_error p (Io e) c ys none (inr a) (inr is) = subst (TakesLast p) (sym is.1) tt

pub takes_last_error : (p : List ℕ) (before u : Unread) (e : LinesCodecError) (c : Cut) → Holds p before → IsOpen p → DecodesAtEnd gives_lines before.codec before.bytes.items (Err e) u.codec u.bytes.items → IsSaidBy e c → TakesLast p c
takes_last_error p before u e c h none (inl d) is = absurd (none_whole p before u (Err e) h none d)
takes_last_error p before u e c h none (inr d) is = last_error p e c u.bytes.items none (last_part p before u (Err e) h none d) is
