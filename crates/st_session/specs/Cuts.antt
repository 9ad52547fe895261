-- What is taken off the front of the bytes that were read.
use Rattle.std.specs.Prelude.{◌≡◌, ℕ, ◌<◌, ◌≤◌, ◌==◌, ◌⊎◌, List, [], ◌∷◌, ◌++◌, length, position, Some, None, string_bytes}
use Rattle.std.specs.IoError.{error_kind}
use Rattle.std.specs.declared.io.ErrorKind.TheVariants.{InvalidData}
use Rattle.tokio_util.specs.declared.codec.lines_codec.LinesCodecError.{LinesCodecError}
use Rattle.tokio_util.specs.declared.codec.lines_codec.LinesCodecError.TheVariants.{MaxLineLengthExceeded, Io}
use Rattle.tokio_util.specs.Codec.Next.{Resumes}
use Rattle.tokio_util.specs.Codec.Lines.{at_line_start, gives_lines, without_carriage_return}
use Rattle.st_classes.specs.declared.refusals.Refusal.TheVariants.{TooLong, BadCommand}
use Rattle.st_session.specs.Lines.{parts, lines, ends_with}
use Rattle.st_session.specs.declared.unread.Cut.{Cut}
use Rattle.st_session.specs.declared.unread.Cut.TheVariants as cut
use Rattle.st_session.specs.declared.unread.Unread.{Unread}

-- these bytes are unread: the codec with its buffer is in the state of a new codec that was given them
abbrev pub Holds : List ℕ → Unread → Type 0
Holds pending u = Resumes gives_lines (at_line_start 8192) pending u.codec u.bytes.items

-- whatever follows the bytes, the first parts are those in front, and the others are the parts of what is left
abbrev pub CutsOff : List ℕ → List (List ℕ) → List ℕ → Type 0
CutsOff bytes front left = (more : List ℕ) → parts (bytes ++ more) ≡ front ++ parts (left ++ more)

-- the bytes have no newline, and are at most as long as a line may be
abbrev pub IsOpen : List ℕ → Type 0
IsOpen bytes = (position (λ b. b == 10) bytes ≡ None) × (length bytes ≤ 8192)

-- whatever follows the bytes, there is a first line, and P holds of it
abbrev pub HasFirst : (List ℕ → Type 0) → List ℕ → Type 0
HasFirst P bytes = (more : List ℕ) → (line : List ℕ) × (others : List (List ℕ)) × (lines (bytes ++ more) ≡ line ∷ others) × P line

-- what was taken off the pending bytes, and what is unread then
abbrev pub Takes : List ℕ → Cut → Unread → Type 0
Takes pending (cut.Line text) u = (line : List ℕ) × (left : List ℕ) × CutsOff pending (line ∷ []) left
    × (ends_with line ≡ None)
    × (string_bytes text ≡ without_carriage_return line)
    × Holds left u
Takes pending cut.Partial u = IsOpen pending × Holds pending u
Takes pending cut.TooLong u = HasFirst (λ line. ends_with line ≡ Some TooLong) pending
Takes pending cut.NoText u = HasFirst (λ line. ends_with line ≡ Some BadCommand) pending
Takes pending cut.Starved u = HasFirst (λ line. ends_with line ≡ None) pending

-- what was taken when the pending bytes have no newline and the input has ended
abbrev pub TakesLast : List ℕ → Cut → Type 0
TakesLast pending (cut.Line text) = (lines pending ≡ pending ∷ [])
    × (ends_with pending ≡ None)
    × (string_bytes text ≡ without_carriage_return pending)
TakesLast pending cut.Partial = lines pending ≡ []
TakesLast pending cut.NoText = (lines pending ≡ pending ∷ []) × (ends_with pending ≡ Some BadCommand)
TakesLast pending cut.TooLong = ⊥
TakesLast pending cut.Starved = Unit {0}

-- what an error of the codec means
abbrev pub IsSaidBy : LinesCodecError → Cut → Type 0
IsSaidBy MaxLineLengthExceeded c = c ≡ cut.TooLong
IsSaidBy (Io e) c = ((error_kind e ≡ InvalidData) × (c ≡ cut.NoText))
    ⊎ (((error_kind e ≡ InvalidData) → ⊥) × (c ≡ cut.Starved))

-- a line consumes at least one byte of the buffer
abbrev pub IsShorter : Cut → ℕ → ℕ → Type 0
IsShorter (cut.Line text) before after = after < before
IsShorter _ before after = Unit {0}
