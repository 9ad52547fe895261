use Rattle.std.proofs.Common.{sym, arith}
use Rattle.std.proofs.lemmas.List.{drop_all}
use Rattle.st_file.specs.BodyJson.{frame_json}
use Rattle.st_file.proofs.TextWriting.{puts_array, puts_before, puts_then}
use Rattle.st_file.proofs.saving.bodies.frames.Goals as goal

pub loop-place-preserved : goal.loop-place-preserved
loop-place-preserved g c = λ d w more.
    let table = c.args.table in
    c.loop-place.invariant d w (puts_before c.loop-place.later (frame_json table.names.now table.version.now) c.args.stack.now.callers _ c.loop-place.place c.in-Some.waiting (sym c.in-Some.ensures) c.comma.ensures c.frame.ensures more)

pub returns : goal.returns
returns g c =
    let all = drop_all c.loop-place.place c.args.stack.now.callers (omega (arith, c.waiting-place-end.ensures, c.loop-place-test.false)) in
    puts_array _ c.put.ensures (c.loop-place.invariant _ _ (rw all (puts_then c.comma-2.ensures (puts_then (rw c.running_frame.ensures at c.frame-2.ensures) c.put-2.ensures))))
