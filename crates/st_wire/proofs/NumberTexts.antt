-- The number of a text, by its sign.
use Rattle.std.proofs.Common.{◌≡◌, ℕ, ◌<◌, ◌^◌, List, drop, slice_index, ℤ, pos, true, false, Some, option_and_then, ap, ◌∙◌, lt-ltb}
use Rattle.std.specs.Bool.{◌==◌}
use Rattle.fast_float.specs.Text.{scan}
use Rattle.serde_json.specs.Data.{unsigned, negative}
use Rattle.serde_json.specs.Find.{as_i64}
use Rattle.serde_json.specs.Read.{number_of, number_from}

with_minus : (text : List ℕ) → (slice_index text 0 == 45) ≡ true → number_of text ≡ number_from true (scan (drop 1 text))
unfolding number_of
with_minus text e = rw e

without_minus : (text : List ℕ) → (slice_index text 0 == 45) ≡ false → number_of text ≡ number_from false (scan text)
unfolding number_of
without_minus text e = rw e

pub negative_text : (text : List ℕ) (n : ℤ) → (slice_index text 0 == 45) ≡ true → number_from true (scan (drop 1 text)) ≡ Some (negative n) → option_and_then as_i64 (number_of text) ≡ Some n
negative_text text n e is = ap (option_and_then as_i64) (with_minus text e ∙ is)

pub positive_text : (text : List ℕ) (n : ℕ) → (slice_index text 0 == 45) ≡ false → number_from false (scan text) ≡ Some (unsigned n) → n < 2 ^ 63 → option_and_then as_i64 (number_of text) ≡ Some (pos n)
positive_text text n e is fits = ap (option_and_then as_i64) (without_minus text e ∙ is) ∙ rw (lt-ltb _ _ fits)
