use Rattle.std.proofs.Common.{arith}
use Rattle.std.proofs.lemmas.List.{drop_all}
use Rattle.serde_json.specs.Data.{string}
use Rattle.st_file.proofs.AsciiNames.{selector_is_text}
use Rattle.st_file.proofs.TextWriting.{puts_array, puts_next}
use Rattle.st_file.proofs.saving.tables.new_names.Goals as goal

pub text-requires-in-loop-number : goal.text-requires-in-loop-number
text-requires-in-loop-number g c = selector_is_text c.text.result.now (c.known.ensures.selectors c.loop-number.number c.text.result.now c.text.ensures.text)

pub loop-number-preserved : goal.loop-number-preserved
loop-number-preserved g c = λ d w more.
    c.loop-number.invariant d w (puts_next c.loop-number.later string c.args.names.now c.loop-number.number c.text.result.now c.text.ensures.text c.comma.ensures c.text-in-loop-number.ensures more)

pub returns : goal.returns
returns g c =
    let all = drop_all c.loop-number.number c.args.names.now (omega (arith, c.len-number-end.ensures, c.loop-number-test.false)) in
    puts_array _ c.put.ensures (c.loop-number.invariant _ _ (rw all c.put-2.ensures))
