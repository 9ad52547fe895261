-- The lines of a text, and those that end a session.
use Rattle.std.specs.Prelude.{◌≡◌, ◌≢◌, ℕ, ◌==◌, List, [], ◌∷◌, All, length, Option, Some, None, nat_lt, if◌then◌else◌}
use Rattle.std.specs.List.{slice_split, join_with_byte}
use Rattle.std.specs.Str.{is_utf8}
use Rattle.st_classes.specs.declared.refusals.Refusal.{Refusal}
use Rattle.st_classes.specs.declared.refusals.Refusal.TheVariants.{TooLong, BadCommand}

-- the parts of a text between its newlines; there is at least one
abbrev pub parts : List ℕ → List (List ℕ)
parts text = slice_split (λ b. b == 10) text

-- no part contains a newline, and the parts joined by newlines are the text
abbrev pub CutsAtNewlines : Type 0
CutsAtNewlines = (text : List ℕ) → All (All (λ b. b ≢ 10)) (parts text) × (join_with_byte 10 (parts text) ≡ text)

-- the last part as a line, unless it is empty or a single carriage return
abbrev pub last_line : List ℕ → List (List ℕ)
last_line [] = []
last_line (b ∷ []) = if b == 13 then [] else (b ∷ []) ∷ []
last_line (b ∷ c ∷ bs) = (b ∷ c ∷ bs) ∷ []

-- the lines that the parts of a text are; the last part may not be one
abbrev pub lines_of : List (List ℕ) → List (List ℕ)
lines_of [] = []
lines_of (part ∷ []) = last_line part
lines_of (part ∷ next ∷ rest) = part ∷ lines_of (next ∷ rest)

-- the lines of a text: the parts before its newlines, and the last part if it is a line
abbrev pub lines : List ℕ → List (List ℕ)
lines text = lines_of (parts text)

-- all parts but the last
abbrev pub before_last : List (List ℕ) → List (List ℕ)
before_last [] = []
before_last (part ∷ []) = []
before_last (part ∷ next ∷ rest) = part ∷ before_last (next ∷ rest)

-- the lines that end with a newline
abbrev pub whole_lines : List ℕ → List (List ℕ)
whole_lines text = before_last (parts text)

-- a line over 8,192 bytes, or one that is not UTF-8, ends a session after a reply that says so
abbrev pub ends_with : List ℕ → Option Refusal
ends_with line = if nat_lt 8192 (length line) then Some TooLong else (if is_utf8 line then None else Some BadCommand)
