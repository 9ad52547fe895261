-- How the lines of the bytes that were read are answered, step by step.
use Rattle.std.specs.Prelude.{◌≡◌, ℕ, ◌≤◌, ◌⊎◌, Bool, true, false, List, [], ◌∷◌, ◌++◌, length, Option, Some, None, Result, Ok, Err, MatchResult, string_bytes}
use Rattle.st_classes.specs.declared.refusals.Refusal.{Refusal}
use Rattle.st_classes.specs.declared.refusals.Refusal.TheVariants.{TooLong, BadCommand, NoMemory, ReadFault, WriteFault}
use Rattle.st_wire.specs.declared.replies.Reply.{Reply}
use Rattle.st_wire.specs.declared.replies.Reply.TheVariants.{Refused}
use Rattle.st_wire.specs.Replies.{line_of}
use Rattle.st_wire.specs.Streams.{one_more}
use Rattle.st_session.specs.Lines.{lines}
use Rattle.st_session.specs.Sessions.{Breaks, IsAnswered, EndsAt, Session}
use Rattle.st_session.specs.Cuts.{Holds, CutsOff, IsOpen, HasFirst}
use Rattle.st_session.specs.declared.unread.Cut.{Cut}
use Rattle.st_session.specs.declared.unread.Cut.TheVariants as cut
use Rattle.st_session.specs.declared.unread.Unread.{Unread}

-- a line that ends the session gets the refusal as its reply, which may break off
abbrev pub IsTold : Refusal → List ℕ → Result Bool Refusal → Type 0
IsTold last part (Ok b) = ⊥
IsTold last part (Err e) = Breaks (line_of (Refused last)) part e ⊎ ((part ≡ line_of (Refused last)) × (e ≡ last))

-- what was cut off is answered: true if it was a line that got its reply
abbrev pub Served : {S : Type 0} → (S → List ℕ → Reply → S → Type 0) → Cut → S → List ℕ → S → Result Bool Refusal → Type 0
Served replies (cut.Line text) i part k result = (r : Reply) × replies i (string_bytes text) r k
    × MatchResult result (λ b. (b ≡ true) × (part ≡ line_of r)) (λ e. Breaks (line_of r) part e)
Served replies cut.Partial i part k result = (part ≡ []) × (k ≡ i) × (result ≡ Ok false)
Served replies cut.TooLong i part k result = (k ≡ i) × IsTold TooLong part result
Served replies cut.NoText i part k result = (k ≡ i) × IsTold BadCommand part result
Served replies cut.Starved i part k result = (part ≡ []) × (k ≡ i) × (result ≡ Err NoMemory)

-- the next line was answered, or there is none yet, or the session ended at it
abbrev pub AnswersNext : {S : Type 0} → (S → List ℕ → Reply → S → Type 0)
    → List ℕ → S → List ℕ → S → Unread → Result Bool Refusal → Type 0
AnswersNext replies pending i part k u (Ok true) = (line : List ℕ) × (left : List ℕ) × CutsOff pending (line ∷ []) left
    × IsAnswered replies i line part k
    × Holds left u
AnswersNext replies pending i part k u (Ok false) = (part ≡ []) × (k ≡ i) × IsOpen pending × Holds pending u
AnswersNext replies pending i part k u (Err e) = HasFirst (λ line. EndsAt replies i line part k e) pending

-- the first count lines of some bytes were answered, and the bytes in left remain
abbrev pub Answered : {S : Type 0} → (S → List ℕ → Reply → S → Type 0) → List ℕ → S → List ℕ → S → List ℕ → ℕ → Type 0
Answered replies bytes i part k left count = (front : List (List ℕ)) × CutsOff bytes front left
    × Session replies i front part k None
    × (count ≡ length front)

-- the session ended at a line, whatever bytes follow these
abbrev pub EndsIn : {S : Type 0} → (S → List ℕ → Reply → S → Type 0) → List ℕ → S → List ℕ → S → Refusal → Type 0
EndsIn replies bytes i part k e = (more : List ℕ) → Session replies i (lines (bytes ++ more)) part k (Some e)

-- all whole lines of the pending bytes were answered, or the session ended at one of them
abbrev pub AnswersWhole : {S : Type 0} → (S → List ℕ → Reply → S → Type 0)
    → List ℕ → S → List ℕ → S → Unread → Result ℕ Refusal → Type 0
AnswersWhole replies pending i part k u (Ok count) = (left : List ℕ) × Answered replies pending i part k left count
    × IsOpen left
    × Holds left u
AnswersWhole replies pending i part k u (Err e) = EndsIn replies pending i part k e

-- the last line was answered, if there is one; or the session ended at it, or there was no memory to look for it
abbrev pub AnswersLast : {S : Type 0} → (S → List ℕ → Reply → S → Type 0)
    → List ℕ → S → List ℕ → S → Result Bool Refusal → Type 0
AnswersLast replies pending i part k (Ok true) = (lines pending ≡ pending ∷ []) × IsAnswered replies i pending part k
AnswersLast replies pending i part k (Ok false) = (part ≡ []) × (k ≡ i) × (lines pending ≡ [])
AnswersLast replies pending i part k (Err e) = ((lines pending ≡ pending ∷ []) × EndsAt replies i pending part k e)
    ⊎ ((part ≡ []) × (k ≡ i) × (e ≡ NoMemory))

-- why no piece was read: no memory, a fault of the output, or a failed read; the input's failures are counted before
-- and after
abbrev pub IsUnreadBy : ℕ → ℕ → Refusal → Type 0
IsUnreadBy failures after e = (((e ≡ NoMemory) ⊎ (e ≡ WriteFault)) × (after ≡ failures))
    ⊎ ((e ≡ ReadFault) × (after ≡ one_more failures))

-- a piece was read after the pending bytes and all whole lines were answered, or the piece was empty at the end; or
-- no piece was read; or the session ended at a line
abbrev pub TakesTurn : {S : Type 0} → (S → List ℕ → Reply → S → Type 0)
    → ℕ → ℕ → List ℕ → List ℕ → S → List ℕ → S → Unread → Result (Option ℕ) Refusal → Type 0
TakesTurn replies failures after pending piece i part k u (Ok None) = (after ≡ failures)
    × (piece ≡ [])
    × (part ≡ [])
    × (k ≡ i)
    × Holds pending u
TakesTurn replies failures after pending piece i part k u (Ok (Some count)) = (after ≡ failures)
    × (1 ≤ length piece)
    × AnswersWhole replies (pending ++ piece) i part k u (Ok count)
TakesTurn replies failures after pending piece i part k u (Err e) =
    ((after ≡ failures) × EndsIn replies (pending ++ piece) i part k e)
    ⊎ ((piece ≡ []) × (part ≡ []) × (k ≡ i) × IsUnreadBy failures after e)
