-- Lines that end a session, and those that do not.
use Rattle.std.proofs.Common.{◌≡◌, ℕ, ◌≤◌, Bool, true, false, List, length, Some, None, nat_lt, refl, arith}
use Rattle.std.specs.Str.{IsUtf8, is_utf8}
use Rattle.std.proofs.lemmas.Bool.Decides.{nat_tests}
use Rattle.std.proofs.lemmas.Str.{IsUtf8-from_is_utf8, is_utf8-from_IsUtf8}
use Rattle.st_classes.specs.declared.refusals.Refusal.TheVariants.{BadCommand}
use Rattle.st_session.specs.Lines.{ends_with}

not_over : (line : List ℕ) → length line ≤ 8192 → nat_lt 8192 (length line) ≡ false
not_over line h = grind (arith, nat_tests)

is_false : (t : Bool) → (t ≡ true → ⊥) → t ≡ false
is_false true never = absurd (never refl)
is_false false never = refl

pub ends_none : (line : List ℕ) → length line ≤ 8192 → IsUtf8 line → None ≡ ends_with line
ends_none line h u = rw (not_over line h, is_utf8-from_IsUtf8 line u)

pub ends_no_text : (line : List ℕ) → length line ≤ 8192 → (IsUtf8 line → ⊥) → Some BadCommand ≡ ends_with line
ends_no_text line h never = rw (not_over line h, is_false (is_utf8 line) (λ e. never (IsUtf8-from_is_utf8 line e)))
