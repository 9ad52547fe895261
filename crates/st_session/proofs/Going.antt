-- From line to line.
use Rattle.std.proofs.Common.{◌≡◌, ℕ, ◌+◌, ◌≤◌, List, [], ◌∷◌, ◌++◌, Option, Some, None, length, refl, sym, ap, ◌∙◌, subst, inl, inr, append_assoc, append-nil, arith, length-append}
use Rattle.st_classes.specs.declared.refusals.Refusal.{Refusal}
use Rattle.st_wire.specs.declared.replies.Reply.{Reply}
use Rattle.st_session.specs.Lines.{parts, lines, lines_of, whole_lines, before_last}
use Rattle.st_session.specs.Sessions.{IsAnswered, EndsAt, Session}
use Rattle.st_session.specs.Cuts.{CutsOff, IsOpen, HasFirst}
use Rattle.st_session.specs.Answering.{Answered, EndsIn}
use Rattle.st_session.proofs.FirstLine.{lines_after, before_one, parts_whole, parts_some, parts_short}

-- a session over some lines, and one over the lines behind them
pub session_append : {S : Type 0} (replies : S → List ℕ → Reply → S → Type 0) (front rest : List (List ℕ)) (i k j : S) (w v : List ℕ) (end : Option Refusal) → Session replies i front w k None → Session replies k rest v j end → Session replies i (front ++ rest) (w ++ v) j end
session_append {S} replies [] rest i k j w v end s t =
    subst (λ (x : List ℕ). Session replies i rest (x ++ v) j end) (sym s.0) (subst (λ (x : S). Session replies x rest v j end) s.1 t)
session_append replies (line ∷ lines) rest i k j w v end (inl s) t = absurd (cc (s.1))
session_append replies (line ∷ lines) rest i k j w v end (inr s) t =
    inr (s.0, s.1 ++ v, s.2, ap (λ x. x ++ v) s.3 ∙ append_assoc s.0 s.1 v, s.4, session_append replies lines rest s.2 k j s.1 v end s.5 t)

pub session_one : {S : Type 0} (replies : S → List ℕ → Reply → S → Type 0) (line : List ℕ) (i k : S) (w : List ℕ) → IsAnswered replies i line w k → Session replies i (line ∷ []) w k None
session_one replies line i k w a = inr (w, [], k, sym (append-nil w), a, (refl, refl, refl))

pub answered_start : {S : Type 0} (replies : S → List ℕ → Reply → S → Type 0) (p : List ℕ) (i : S) → Answered replies p i [] i p 0
answered_start replies p i = ([], (λ more. refl), (refl, refl, refl), refl)

-- one after the other
pub answered_then : {S : Type 0} (replies : S → List ℕ → Reply → S → Type 0) (whole pending left : List ℕ) (i k m : S) (w v : List ℕ) (n l : ℕ) → Answered replies whole i w k pending n → Answered replies pending k v m left l → Answered replies whole i (w ++ v) m left (n + l)
answered_then replies whole pending left i k m w v n l a b = (
  a.0 ++ b.0,
  (λ more. a.1 more ∙ ap (λ ps. a.0 ++ ps) (b.1 more) ∙ sym (append_assoc a.0 b.0 (parts (left ++ more)))),
  session_append replies a.0 b.0 i k m w v None a.2 b.2,
  omega (arith, a.3, b.3, length-append a.0 b.0),
)

pub answered_line : {S : Type 0} (replies : S → List ℕ → Reply → S → Type 0) (whole pending line left : List ℕ) (i k m : S) (w v : List ℕ) (n : ℕ) → Answered replies whole i w k pending n → CutsOff pending (line ∷ []) left → IsAnswered replies k line v m → Answered replies whole i (w ++ v) m left (n + 1)
answered_line replies whole pending line left i k m w v n a c s = answered_then replies whole pending left i k m w v n 1 a (line ∷ [], c, session_one replies line k m v s, refl)

-- more bytes
pub answered_more : {S : Type 0} (replies : S → List ℕ → Reply → S → Type 0) (bytes piece left : List ℕ) (i k : S) (w : List ℕ) (n : ℕ) → Answered replies bytes i w k left n → Answered replies (bytes ++ piece) i w k (left ++ piece) n
answered_more replies bytes piece left i k w n a =
    (a.0, (λ more. ap parts (append_assoc bytes piece more) ∙ a.1 (piece ++ more) ∙ ap (λ xs. a.0 ++ parts xs) (sym (append_assoc left piece more))), a.2, a.3)

-- the lines of all the bytes
pub lines_from : (whole left : List ℕ) (front : List (List ℕ)) → CutsOff whole front left → (more : List ℕ) → lines (whole ++ more) ≡ front ++ lines (left ++ more)
lines_from whole left front c more = ap lines_of (c more) ∙ lines_after front (left ++ more)

-- a session that ends at a line, whatever comes behind
pub ends_first : {S : Type 0} (replies : S → List ℕ → Reply → S → Type 0) (pending : List ℕ) (i k : S) (w : List ℕ) (e : Refusal) → HasFirst (λ line. EndsAt replies i line w k e) pending → EndsIn replies pending i w k e
ends_first replies pending i k w e h more = let f = h more in rw f.2 (inl (e, refl, f.3))

pub ends_then : {S : Type 0} (replies : S → List ℕ → Reply → S → Type 0) (whole pending : List ℕ) (i k m : S) (w v : List ℕ) (n : ℕ) (e : Refusal) → Answered replies whole i w k pending n → EndsIn replies pending k v m e → EndsIn replies whole i (w ++ v) m e
ends_then replies whole pending i k m w v n e a ends more =
    subst (λ (ls : List (List ℕ)). Session replies i ls (w ++ v) m (Some e)) (sym (lines_from whole pending a.0 a.1 more))
    (session_append replies a.0 (lines (pending ++ more)) i k m w v (Some e) a.2 (ends more))

-- where nothing comes behind
pub answered_all : {S : Type 0} (replies : S → List ℕ → Reply → S → Type 0) (whole left : List ℕ) (i k j : S) (w v : List ℕ) (n : ℕ) (end : Option Refusal) → Answered replies whole i w k left n → Session replies k (lines left) v j end → Session replies i (lines whole) (w ++ v) j end
answered_all replies whole left i k j w v n end a s =
    subst (λ (ls : List (List ℕ)). Session replies i ls (w ++ v) j end) (sym (all_lines whole left a.0 a.1))
    (session_append replies a.0 (lines left) i k j w v end a.2 s)
  where
    all_lines : (whole left : List ℕ) (front : List (List ℕ)) → CutsOff whole front left → lines whole ≡ front ++ lines left
    all_lines whole left front c = ap lines (sym (append-nil whole)) ∙ lines_from whole left front c [] ∙ ap (λ xs. front ++ lines xs) (append-nil left)

pub count_all : {S : Type 0} (replies : S → List ℕ → Reply → S → Type 0) (whole left : List ℕ) (i k : S) (w : List ℕ) (n : ℕ) → Answered replies whole i w k left n → length (lines whole) ≡ n + length (lines left)
count_all replies whole left i k w n a =
    let e : lines whole ≡ a.0 ++ lines left = ap lines (sym (append-nil whole)) ∙ lines_from whole left a.0 a.1 [] ∙ ap (λ xs. a.0 ++ lines xs) (append-nil left) in
    ap length e ∙ omega (arith, length-append a.0 (lines left), a.3)

parts_all : (whole left : List ℕ) (front : List (List ℕ)) → CutsOff whole front left → parts whole ≡ front ++ parts left
parts_all whole left front c = ap parts (sym (append-nil whole)) ∙ c [] ∙ ap (λ xs. front ++ parts xs) (append-nil left)

-- no more lines than bytes
pub count_short : {S : Type 0} (replies : S → List ℕ → Reply → S → Type 0) (whole left : List ℕ) (i k : S) (w : List ℕ) (n : ℕ) → Answered replies whole i w k left n → n ≤ length whole
count_short replies whole left i k w n a =
    omega (arith, a.3, ap length (parts_all whole left a.0 a.1), length-append a.0 (parts left), parts_some left, parts_short whole)

-- all whole lines
pub answered_whole : {S : Type 0} (replies : S → List ℕ → Reply → S → Type 0) (whole left : List ℕ) (i k : S) (w : List ℕ) (n : ℕ) → Answered replies whole i w k left n → IsOpen left → Session replies i (whole_lines whole) w k None
answered_whole replies whole left i k w n a none =
    let e : whole_lines whole ≡ a.0 = ap before_last (parts_all whole left a.0 a.1 ∙ ap (λ ps. a.0 ++ ps) (parts_whole left none.0)) ∙ before_one a.0 left in
    subst (λ (ls : List (List ℕ)). Session replies i ls w k None) (sym e) a.2
