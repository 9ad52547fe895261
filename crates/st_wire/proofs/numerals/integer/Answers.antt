use Rattle.std.proofs.Common.{◌≡◌, ◌<◌, ◌^◌, slice_index, true, false, Some, option_and_then, w64, sym, ap, ◌∙◌, arith}
use Rattle.std.specs.Bool.{◌==◌}
use Rattle.std.proofs.lemmas.Int.{to_z_pos}
use Rattle.std.proofs.lemmas.Option.{IfSome_then}
use Rattle.std.proofs.lemmas.List.{take_rest}
use Rattle.fast_float.specs.Text.{scan}
use Rattle.serde_json.specs.Find.{as_i64}
use Rattle.serde_json.specs.Read.{number_of, number_from}
use Rattle.st_wire.proofs.NumberTexts.{negative_text, positive_text}
use Rattle.st_wire.proofs.numerals.integer.Goals as goal

pub returns-then-has_minus : goal.returns-then-has_minus
returns-then-has_minus c =
    let s = c.as_bytes-bytes.result.now in
    let same : s ≡ c.args.text.now = c.as_bytes-bytes.ensures.value in
    let minus : (slice_index s 0 == 45) ≡ true = sym c.has_minus.ensures.value ∙ c.if-has_minus.true in
    IfSome_then c.negative_of.result c.negative_of.ensures (λ n is. ap (λ t. option_and_then as_i64 (number_of t)) (sym same) ∙ negative_text s n minus (ap (λ t. number_from true (scan t)) (sym (take_rest s 1)) ∙ is))

pub returns-in-Some : goal.returns-in-Some
returns-in-Some c =
    let s = c.as_bytes-bytes.result.now in
    let n = c.in-Some.n in
    let same : s ≡ c.args.text.now = c.as_bytes-bytes.ensures.value in
    let none : (slice_index s 0 == 45) ≡ false = sym c.has_minus.ensures.value ∙ c.if-has_minus.false in
    let fits : n < 2 ^ 63 = grind arith in
    ap (λ t. option_and_then as_i64 (number_of t)) (sym same) ∙ positive_text s n none c.in-Some.ensures fits ∙ ap Some (sym (to_z_pos w64 n fits))
