-- A session over devices: the bytes that it read, and which of their lines are answered.
use Rattle.std.specs.Prelude.{◌≡◌, ℕ, ◌+◌, ◌≤◌, ◌^◌, ◌⊎◌, List, [], ◌++◌, length, Option, None, Some, Result, Ok, Err}
use Rattle.std.specs.Io.KnownBytes.{Consumes, IsAtEnd}
use Rattle.st_classes.specs.declared.refusals.Refusal.{Refusal}
use Rattle.st_classes.specs.declared.refusals.Refusal.TheVariants.{NoMemory, ReadFault, WriteFault}
use Rattle.st_wire.specs.declared.replies.Reply.{Reply}
use Rattle.st_wire.specs.Streams.{InputView, one_more, so_many_more}
use Rattle.st_session.specs.Lines.{lines, whole_lines}
use Rattle.st_session.specs.Sessions.{Session}

-- an input gave these bytes, which are the first of those that it had left, if those are known; it was read at most 2^32
-- times, and at most once more than it gave bytes
abbrev pub Gives : InputView → InputView → List ℕ → Type 0
Gives before after taken = Consumes before.remaining after.remaining taken
    × ((n : ℕ) × (n ≤ 2 ^ 32) × (n ≤ length taken + 1) × (after.reads ≡ so_many_more n before.reads))

-- the text is all that was left, if that is known, and nothing is left after it
abbrev pub IsWhole : Option (List ℕ) → Option (List ℕ) → List ℕ → Type 0
IsWhole None after text = IsAtEnd after
IsWhole (Some bytes) after text = (text ≡ bytes) × (after ≡ Some [])

-- 2^32 reads were made, and each gave at least one byte
abbrev pub IsEndless : InputView → InputView → List ℕ → Type 0
IsEndless before after taken = (after.failures ≡ before.failures)
    × (after.reads ≡ so_many_more (2 ^ 32) before.reads)
    × (2 ^ 32 ≤ length taken)

-- why the next bytes were not read: memory ran out, or the output failed; or a read failed, or the reads did not
-- reach the end
abbrev pub WhyStopped : InputView → InputView → List ℕ → Refusal → Type 0
WhyStopped before after taken e = (((e ≡ NoMemory) ⊎ (e ≡ WriteFault)) × (after.failures ≡ before.failures))
    ⊎ ((e ≡ ReadFault) × ((after.failures ≡ one_more before.failures) ⊎ IsEndless before after taken))

-- the session ended at a line of the bytes that were read, whatever follows them; or at a line of all bytes, once the
-- input has ended
abbrev pub EndsAtLine : {S : Type 0} → (S → List ℕ → Reply → S → Type 0)
    → S → InputView → InputView → List ℕ → List ℕ → S → Refusal → Type 0
EndsAtLine replies i before after taken written j e = (after.failures ≡ before.failures)
    × (((more : List ℕ) → Session replies i (lines (taken ++ more)) written j (Some e))
    ⊎ (IsWhole before.remaining after.remaining taken × Session replies i (lines taken) written j (Some e)))

-- all whole lines that were read are answered, and then the session stopped before it read on
abbrev pub StopsBetween : {S : Type 0} → (S → List ℕ → Reply → S → Type 0)
    → S → InputView → InputView → List ℕ → List ℕ → S → Refusal → Type 0
StopsBetween replies i before after taken written j e = Session replies i (whole_lines taken) written j None
    × WhyStopped before after taken e

-- a session over what an input had left: all its lines are answered and counted, or the session ended early
abbrev pub DeviceSession : {S : Type 0} → (S → List ℕ → Reply → S → Type 0)
    → S → InputView → InputView → List ℕ → S → Result ℕ Refusal → Type 0
DeviceSession replies i before after written j (Ok count) = (taken : List ℕ) × Gives before after taken
    × IsWhole before.remaining after.remaining taken
    × (after.failures ≡ before.failures)
    × Session replies i (lines taken) written j None
    × (count ≡ length (lines taken))
DeviceSession replies i before after written j (Err e) = (taken : List ℕ) × Gives before after taken
    × (EndsAtLine replies i before after taken written j e ⊎ StopsBetween replies i before after taken written j e)

-- the same for an input of known bytes whose reads do not fail: what is written depends on the bytes alone, and ReadFault
-- needs at least 2^32 of them
abbrev pub ByteSession : {S : Type 0} → (S → List ℕ → Reply → S → Type 0)
    → S → List ℕ → List ℕ → S → Result ℕ Refusal → Type 0
ByteSession replies i bytes written j (Ok count) = Session replies i (lines bytes) written j None × (count ≡ length (lines bytes))
ByteSession replies i bytes written j (Err e) = Session replies i (lines bytes) written j (Some e)
    ⊎ ((taken : List ℕ) × (rest : List ℕ) × (bytes ≡ taken ++ rest)
    × Session replies i (whole_lines taken) written j None
    × (((e ≡ NoMemory) ⊎ (e ≡ WriteFault)) ⊎ ((e ≡ ReadFault) × (2 ^ 32 ≤ length bytes))))

-- the input was read at most a given number of times, and the output flushed as often, or once more if the result is
-- WriteFault
abbrev pub FlushesAsOftenAsReads : {T : Type 0} → ℕ → ℕ → ℕ → ℕ → ℕ → Result T Refusal → Type 0
FlushesAsOftenAsReads most reads reads_after flushes flushes_after result = (n : ℕ) × (n ≤ most)
    × (reads_after ≡ so_many_more n reads)
    × ((flushes_after ≡ so_many_more n flushes)
    ⊎ ((result ≡ Err WriteFault) × (flushes_after ≡ so_many_more (n + 1) flushes)))
