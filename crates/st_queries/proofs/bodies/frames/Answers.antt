use Rattle.std.proofs.Common.{map, sym}
use Rattle.st_file.specs.BodyJson.{frame_json}
use Rattle.st_queries.proofs.Rows.{next_told}
use Rattle.st_queries.proofs.bodies.frames.Goals as goal

pub loop-place-preserved : goal.loop-place-preserved
loop-place-preserved c =
    let tell = frame_json c.args.table.names.now c.args.table.version.now in
    let callers = c.args.stack.now.callers in
    let told = next_told tell callers c.loop-place.place c.in-Some.waiting c.loop-place.items c.in_ok-frame-in-Some.field-0 (map tell callers) (sym c.in-Some.ensures) c.in_ok-frame-in-Some.ensures c.loop-place.invariant in
    rw c.in_ok-push-in-Some.ensures told
