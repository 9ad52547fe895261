-- A line that was cut is answered.
use Rattle.std.proofs.Common.{◌≡◌, ℕ, ◌⊎◌, Bool, true, false, List, Ok, Err, Some, None, Option, MatchOption, Result, refl, ap, ◌∙◌, subst, inl, inr, not, is_some, if◌then◌else◌}
use Rattle.std.specs.String.{string_bytes}
use Rattle.st_classes.specs.declared.refusals.Refusal.{Refusal}
use Rattle.st_classes.specs.declared.refusals.Refusal.TheVariants.{BadCommand, NoMemory}
use Rattle.st_classes.specs.Refusals.{first_of}
use Rattle.st_wire.specs.declared.commands.Command.{Command}
use Rattle.st_wire.specs.declared.replies.Reply.{Reply}
use Rattle.st_wire.specs.declared.replies.Reply.TheVariants.{Refused}
use Rattle.st_wire.specs.Commands.{command_of, command_rules}
use Rattle.tokio_util.specs.Codec.Lines.{without_carriage_return}
use Rattle.st_session.specs.Sessions.{Replies, EndsAt}
use Rattle.st_session.specs.Cuts.{Takes, TakesLast}
use Rattle.st_session.specs.Answering.{Served, AnswersNext, AnswersLast}
use Rattle.st_session.specs.declared.unread.Cut.{Cut}
use Rattle.st_session.specs.declared.unread.Cut.TheVariants as cut
use Rattle.st_session.specs.declared.unread.Unread.{Unread}
use Rattle.st_session.proofs.Stripping.{command_same}
use Rattle.st_session.proofs.Front.{first_cut}

-- ---- a line that is no command

no_command : {S : Type 0} (answers : S → Command → Reply → S → Type 0) (o : Option Command) (i : S) (e : Refusal) → (e ≡ NoMemory) ⊎ ((if not (is_some o) then Some BadCommand else None) ≡ Some e)
    → ((Refused e ≡ Refused NoMemory) × (i ≡ i)) ⊎ MatchOption o ((Refused e ≡ Refused BadCommand) × (i ≡ i)) (λ c. answers i c (Refused e) i)
no_command answers o i e (inl f) = inl (ap Refused f, refl)
no_command answers None i e (inr f) = inr ((cc), refl)
no_command answers (Some c) i e (inr f) = cc

pub bad_line : {S : Type 0} (answers : S → Command → Reply → S → Type 0) (i : S) (line : List ℕ) (e : Refusal) → (e ≡ NoMemory) ⊎ (first_of (command_rules line) ≡ Some e) → Replies answers i line (Refused e) i
bad_line answers i line e h = no_command answers (command_of line) i e h

-- ---- the carriage return that the codec takes off

returned : {S : Type 0} (answers : S → Command → Reply → S → Type 0) (i k : S) (text line : List ℕ) (r : Reply) → text ≡ without_carriage_return line → Replies answers i text r k → Replies answers i line r k
returned answers i k text line r t h =
    subst (λ (o : Option Command). ((r ≡ Refused NoMemory) × (k ≡ i)) ⊎ MatchOption o ((r ≡ Refused BadCommand) × (k ≡ i)) (λ c. answers i c r k)) (ap command_of t ∙ command_same line) h

-- ---- the next line

pub next_answered : {S : Type 0} (answers : S → Command → Reply → S → Type 0) (pending : List ℕ) (c : Cut) (u : Unread) (i : S) (part : List ℕ) (k : S) (result : Result Bool Refusal)
    → Takes pending c u → Served (Replies answers) c i part k result → AnswersNext (Replies answers) pending i part k u result
next_answered answers pending (cut.Line text) u i part k (Ok true) t s =
    (t.0, t.1, t.2, (t.3, (s.0, returned answers i k (string_bytes text) t.0 s.0 t.4 s.1, s.2.1)), t.5)
next_answered answers pending (cut.Line text) u i part k (Ok false) t s = absurd (cc (s.2.0))
next_answered answers pending (cut.Line text) u i part k (Err e) t s =
    first_cut (λ l. EndsAt (Replies answers) i l part k e) pending t.0 t.1 t.2 (rw t.3 (inr (s.0, returned answers i k (string_bytes text) t.0 s.0 t.4 s.1, s.2)))
next_answered answers pending cut.Partial u i part k (Ok true) t s = absurd (cc (s.2))
next_answered answers pending cut.Partial u i part k (Ok false) t s = (s.0, s.1, t.0, t.1)
next_answered answers pending cut.Partial u i part k (Err e) t s = absurd (cc (s.2))
next_answered answers pending cut.TooLong u i part k (Ok b) t s = absurd s.1
next_answered answers pending cut.TooLong u i part k (Err e) t s = λ more. let h = t more in (h.0, h.1, h.2, rw h.3 s)
next_answered answers pending cut.NoText u i part k (Ok b) t s = absurd s.1
next_answered answers pending cut.NoText u i part k (Err e) t s = λ more. let h = t more in (h.0, h.1, h.2, rw h.3 s)
next_answered answers pending cut.Starved u i part k (Ok b) t s = absurd (cc (s.2))
next_answered answers pending cut.Starved u i part k (Err e) t s = λ more. let h = t more in (h.0, h.1, h.2, rw h.3 (inl (s.0, s.1, cc (s.2))))

-- ---- the last line

pub last_answered : {S : Type 0} (answers : S → Command → Reply → S → Type 0) (pending : List ℕ) (c : Cut) (i : S) (part : List ℕ) (k : S) (result : Result Bool Refusal)
    → TakesLast pending c → Served (Replies answers) c i part k result → AnswersLast (Replies answers) pending i part k result
last_answered answers pending (cut.Line text) i part k (Ok true) t s = (t.0, (t.1, (s.0, returned answers i k (string_bytes text) pending s.0 t.2 s.1, s.2.1)))
last_answered answers pending (cut.Line text) i part k (Ok false) t s = absurd (cc (s.2.0))
last_answered answers pending (cut.Line text) i part k (Err e) t s = inl (t.0, rw t.1 (inr (s.0, returned answers i k (string_bytes text) pending s.0 t.2 s.1, s.2)))
last_answered answers pending cut.Partial i part k (Ok true) t s = absurd (cc (s.2))
last_answered answers pending cut.Partial i part k (Ok false) t s = (s.0, s.1, t)
last_answered answers pending cut.Partial i part k (Err e) t s = absurd (cc (s.2))
last_answered answers pending cut.TooLong i part k result t s = absurd t
last_answered answers pending cut.NoText i part k (Ok b) t s = absurd s.1
last_answered answers pending cut.NoText i part k (Err e) t s = inl (t.0, rw t.1 s)
last_answered answers pending cut.Starved i part k (Ok b) t s = absurd (cc (s.2))
last_answered answers pending cut.Starved i part k (Err e) t s = inr (s.0, s.1, cc (s.2))
