-- A carriage return behind the content of a string.
use Rattle.std.proofs.Common.{◌≡◌, ℕ, ◌==◌, ◌&&◌, Bool, true, false, cond, List, [], ◌∷◌, Option, Some, None, refl}
use Rattle.std.specs.Option.{option_and_then}
use Rattle.std.specs.Char.{is_digit, encode_utf8}
use Rattle.json.specs.Text.{Within, plain, after_backslash, after_u, after_high, prepend, content, code_unit, short_escape, is_high_surrogate, is_low_surrogate}
use Rattle.st_wire.proofs.ReturnWords.{cr}

no_last : (a b c : Bool) → (a && b && c && false) ≡ false
no_last true true true = refl
no_last true true false = refl
no_last true false c = refl
no_last false b c = refl

unit_cr : (a b c : ℕ) → code_unit a b c 13 ≡ None
unfolding code_unit
unit_cr a b c = rw (no_last (is_digit a 16) (is_digit b 16) (is_digit c 16)) refl

no_if : (b : Bool) → ◌≡◌ {A = Option (List ℕ)} (cond b None None) None
no_if true = refl
no_if false = refl

pub content_cr : (w : Within) (xs : List ℕ) → content w (cr xs) ≡ content w xs
unfolding content short_escape
content_cr plain [] = refl
content_cr plain (x ∷ xs) = rw (content_cr after_backslash xs, content_cr plain xs) refl
content_cr after_backslash [] = refl
content_cr after_backslash (x ∷ xs) = rw (content_cr after_u xs, content_cr plain xs) refl
content_cr after_u [] = refl
content_cr after_u (a ∷ []) = refl
content_cr after_u (a ∷ b ∷ []) = refl
content_cr after_u (a ∷ b ∷ c ∷ []) = rw (unit_cr a b c) refl
content_cr after_u (a ∷ b ∷ c ∷ d ∷ xs) =
    elim (code_unit a b c d) as (λ o. option_and_then (λ u. cond (is_high_surrogate u) (content (after_high u) (cr xs)) (cond (is_low_surrogate u) None (prepend (encode_utf8 u) (content plain (cr xs))))) o ≡ option_and_then (λ u. cond (is_high_surrogate u) (content (after_high u) xs) (cond (is_low_surrogate u) None (prepend (encode_utf8 u) (content plain xs)))) o) [ None ↦ refl | Some u ↦ rw (content_cr (after_high u) xs, content_cr plain xs) refl ]
content_cr (after_high h) [] = refl
content_cr (after_high h) (s ∷ []) = refl
content_cr (after_high h) (s ∷ u ∷ []) = refl
content_cr (after_high h) (s ∷ u ∷ a ∷ []) = refl
content_cr (after_high h) (s ∷ u ∷ a ∷ b ∷ []) = refl
content_cr (after_high h) (s ∷ u ∷ a ∷ b ∷ c ∷ []) = rw (unit_cr a b c, no_if ((s == 92) && (u == 117))) refl
content_cr (after_high h) (s ∷ u ∷ a ∷ b ∷ c ∷ d ∷ xs) = rw (content_cr plain xs) refl
