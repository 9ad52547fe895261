use Rattle.std.proofs.Common.{◌≡◌, ℕ, ◌<◌, true, List, get_or}
use Rattle.std.specs.Str.{is_utf8}
use Rattle.st_journal.proofs.lines.are_texts.Given as goal

abbrev pub invariant-loop-text : goal.invariant-loop-text
invariant-loop-text l = (k : ℕ) (d : List ℕ) → k < l.text-index → is_utf8 (get_or l.texts k d) ≡ true
