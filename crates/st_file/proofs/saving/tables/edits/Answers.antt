use Rattle.std.proofs.Common.{sym, arith}
use Rattle.std.proofs.lemmas.List.{drop_all}
use Rattle.st_file.specs.EditJson.{edit_json}
use Rattle.st_file.proofs.TableTexts.{edit_is_text}
use Rattle.st_file.proofs.TextWriting.{is_there, puts_array, puts_next}
use Rattle.st_file.proofs.saving.tables.edits.Goals as goal

pub edit-requires-in-Some : goal.edit-requires-in-Some
edit-requires-in-Some g c =
    edit_is_text c.args.names.now c.args.version.now c.known.ensures c.known-2.ensures.lawful c.requires c.loop-place.place c.in-Some.made.now (sym c.in-Some.ensures)

pub unreachable-requires : goal.unreachable-requires
unreachable-requires g c = is_there c.args.version.now c.loop-place.place (omega (arith, c.edits-place-end.ensures, c.loop-place-test.true)) (sym c.in-None.ensures)

pub loop-place-preserved : goal.loop-place-preserved
loop-place-preserved g c = λ d w more.
    c.loop-place.invariant d w (puts_next c.loop-place.later (edit_json c.args.names.now c.args.version.now) c.args.version.now c.loop-place.place c.in-Some.made.now (sym c.in-Some.ensures) c.comma.ensures c.edit-in-Some.ensures more)

pub returns : goal.returns
returns g c =
    let all = drop_all c.loop-place.place c.args.version.now (omega (arith, c.edits-place-end.ensures, c.loop-place-test.false)) in
    puts_array _ c.put.ensures (c.loop-place.invariant _ _ (rw all c.put-2.ensures))
