-- A session over the lines of a text: what is written, how it leaves the handler, and how it ends.
use Rattle.std.specs.Prelude.{◌≡◌, ℕ, ◌⊎◌, List, [], ◌∷◌, ◌++◌, Option, Some, None, Result, Ok, Err, MatchOption}
use Rattle.st_classes.specs.declared.refusals.Refusal.{Refusal}
use Rattle.st_classes.specs.declared.refusals.Refusal.TheVariants.{BadCommand, NoMemory, WriteFault}
use Rattle.st_wire.specs.declared.commands.Command.{Command}
use Rattle.st_wire.specs.declared.replies.Reply.{Reply}
use Rattle.st_wire.specs.declared.replies.Reply.TheVariants.{Refused}
use Rattle.st_wire.specs.Commands.{command_of}
use Rattle.st_wire.specs.Replies.{line_of}
use Rattle.st_wire.specs.Streams.{one_more}
use Rattle.st_session.specs.Lines.{ends_with}

-- the reply to a line is the handler's to its command; or BadCommand if the line is not one; or NoMemory if memory
-- ran out for the command. `answers i c r k` says that handler i may reply r to command c and become k
abbrev pub Replies : {S : Type 0} → (S → Command → Reply → S → Type 0) → S → List ℕ → Reply → S → Type 0
Replies answers i line r k = ((r ≡ Refused NoMemory) × (k ≡ i))
    ⊎ MatchOption (command_of line)
    ((r ≡ Refused BadCommand) × (k ≡ i))
    (λ c. answers i c r k)

-- a reply that was not written whole: memory ran out for its text, or the device failed before its last byte
abbrev pub Breaks : List ℕ → List ℕ → Refusal → Type 0
Breaks text written e = ((written ≡ []) × (e ≡ NoMemory))
    ⊎ (((b : ℕ) × (rest : List ℕ) × (text ≡ written ++ b ∷ rest)) × (e ≡ WriteFault))

-- a line that does not end the session gets its reply, written whole; `replies i line r k` says that handler i may
-- reply r to the line and become k
abbrev pub IsAnswered : {S : Type 0} → (S → List ℕ → Reply → S → Type 0) → S → List ℕ → List ℕ → S → Type 0
IsAnswered replies i line written k = (ends_with line ≡ None)
    × ((r : Reply) × replies i line r k × (written ≡ line_of r))

-- a session ends at a line: memory runs out for the line, and nothing is written; or its reply breaks off; or the
-- line is one that ends it, after a reply that says so
abbrev pub EndsAt : {S : Type 0} → (S → List ℕ → Reply → S → Type 0) → S → List ℕ → List ℕ → S → Refusal → Type 0
EndsAt replies i line written j e = MatchOption (ends_with line)
    (((written ≡ []) × (j ≡ i) × (e ≡ NoMemory)) ⊎ ((r : Reply) × replies i line r j × Breaks (line_of r) written e))
    (λ last. (j ≡ i) × (Breaks (line_of (Refused last)) written e ⊎ ((written ≡ line_of (Refused last)) × (e ≡ last))))

-- the session ends at the first line, or that line is answered and the session goes on with the others
abbrev pub Session : {S : Type 0} → (S → List ℕ → Reply → S → Type 0)
    → S → List (List ℕ) → List ℕ → S → Option Refusal → Type 0
Session replies i [] written j end = (written ≡ []) × (j ≡ i) × (end ≡ None)
Session {S} replies i (line ∷ lines) written j end =
    ((e : Refusal) × (end ≡ Some e) × EndsAt replies i line written j e)
    ⊎ ((first : List ℕ) × (rest : List ℕ) × (k : S) × (written ≡ first ++ rest)
    × IsAnswered replies i line first k
    × Session replies k lines rest j end)

-- why a session ended early, if it did
abbrev pub end_of : {T : Type 0} → Result T Refusal → Option Refusal
end_of (Ok _) = None
end_of (Err e) = Some e

-- a device's count of failures: one more if the device ended the session
abbrev pub failures_after : Option Refusal → ℕ → ℕ
failures_after (Some WriteFault) failures = one_more failures
failures_after _ failures = failures
