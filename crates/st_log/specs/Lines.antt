-- The whole lines of a text, and the lines of batches.
use Rattle.std.specs.Prelude.{◌≡◌, ◌⊎◌, ℕ, zero, suc, ◌+◌, ◌==◌, ◌<◌, ◌≤◌, List, [], ◌∷◌, ◌++◌, length, take, Vec, if◌then◌else◌}
use Rattle.std.proofs.Common.{◌≢◌}
use Rattle.std.specs.List.{AllByRecursion}
use Rattle.std.specs.declared.alloc.Global.{Global}

-- How many bytes at the front of a text are whole lines. A line begins with a brace (123) and ends with its first newline (10). So many
-- bytes of a line stand before the text.
abbrev pub whole_len_from : ℕ → List ℕ → ℕ
whole_len_from n [] = 0
whole_len_from zero (b ∷ bs) = if b == 123 then whole_len_from 1 bs else 0
whole_len_from (suc n) (b ∷ bs) = if b == 10 then suc (suc n) + whole_len_from 0 bs else whole_len_from (suc (suc n)) bs

-- the whole lines of a text: those before the first one that does not begin with a brace or has no newline
abbrev pub whole_lines : List ℕ → List ℕ
whole_lines text = take (whole_len_from 0 text) text

-- an empty line stands behind the lines
abbrev pub with_end : List ℕ → List ℕ
with_end lines = lines ++ 10 ∷ []

-- whole lines, at least one, and an empty line
pub record IsBatch (text : List ℕ) : Type 0 where
  pub lines : text ≡ with_end (whole_lines text)
  pub some : 0 < length (whole_lines text)

-- the lines of these batches, one batch behind the other
abbrev pub lines_of : List (Vec ℕ Global) → List ℕ
lines_of [] = []
lines_of (b ∷ bs) = whole_lines b.items ++ lines_of bs

-- the text has the lines, with those of a batch or without
abbrev pub IsBeforeOrAfter : List ℕ → List ℕ → List ℕ → Type 0
IsBeforeOrAfter lines batch text = (whole_lines text ≡ lines) ⊎ (whole_lines text ≡ lines ++ whole_lines batch)

-- the text has the lines, and behind them those of the first n batches
abbrev pub HasFirst : List ℕ → List (Vec ℕ Global) → List ℕ → Type 0
HasFirst lines batches text = (n : ℕ) × (n ≤ length batches) × (whole_lines text ≡ lines ++ lines_of (take n batches))

-- one line: a brace, bytes that are no newlines, and a newline
pub record IsLine (text : List ℕ) : Type 0 where
  pub between : List ℕ
  pub is : text ≡ 123 ∷ between ++ 10 ∷ []
  pub one_newline : AllByRecursion (λ b. b ≢ 10) between

-- What the whole lines of a text are. Where a line stands at its front: that line, and the whole lines of the rest. Else there are none.
pub record AreWholeLines : Type 0 where
  pub line : (line rest : List ℕ) → IsLine line → whole_lines (line ++ rest) ≡ line ++ whole_lines rest
  pub none : (text : List ℕ) → ((line rest : List ℕ) → IsLine line → text ≡ line ++ rest → ⊥) → whole_lines text ≡ []
