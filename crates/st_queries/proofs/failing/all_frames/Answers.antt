use Rattle.std.proofs.Common.{◌≡◌, ◌∙◌, ◌≤◌, ◌++◌, ◌∷◌, [], ap, arith, length, map, sym}
use Rattle.std.specs.List.{enumerate_from}
use Rattle.serde_json.specs.Data.{array}
use Rattle.serde_json.specs.View.{items_of, items_view, view}
use Rattle.st_queries.specs.Failing.{frame_told, offset_at, placed_told}
use Rattle.st_queries.proofs.Placing.{items_seen, last_placed, next_placed}
use Rattle.st_queries.proofs.failing.all_frames.Goals as goal

pub loop-place-preserved : goal.loop-place-preserved
loop-place-preserved c =
    let tell = placed_told c.args.table.names.now c.args.table.version.now c.args.offsets.now c.args.objects.now in
    let callers = c.args.stack.now.callers in
    let frame = c.in-Some.waiting in
    let told = ap (λ o. frame_told c.args.table.names.now c.args.table.version.now c.args.objects.now o frame) c.offset_at-at.ensures in
    let next = next_placed tell callers c.loop-place.place frame c.loop-place.items c.in_ok-frame-in-Some.field-0 (map tell (enumerate_from 0 callers)) (sym c.in-Some.ensures) (c.in_ok-frame-in-Some.ensures ∙ told) c.loop-place.invariant in
    rw c.in_ok-push-in-Some.ensures next

pub returns : goal.returns
returns c =
    let names = c.args.table.names.now in
    let edits = c.args.table.version.now in
    let objects = c.args.objects.now in
    let tell = placed_told names edits c.args.offsets.now objects in
    let callers = c.args.stack.now.callers in
    let running = c.args.stack.now.running in
    let place = c.loop-place.place in
    let items = c.loop-place.items in
    let v = c.in_ok-frame.field-0 in
    let past : length callers ≤ place = omega (arith, c.waiting-place-end.ensures, c.loop-place-test.false) in
    let within : place ≤ length callers = omega (arith, c.waiting-place-end.ensures, c.loop-place.auto.place-end) in
    let count : c.waiting.result ≡ place = omega (arith, c.waiting.ensures, past, within) in
    let told : view v ≡ tell (place, running) = c.in_ok-frame.ensures ∙ ap (λ f. frame_told names edits objects c.offset_at-at-2.result f) c.running_frame.ensures ∙ ap (λ o. frame_told names edits objects o running) (c.offset_at-at-2.ensures ∙ ap (λ k. offset_at c.args.offsets.now k) count) in
    c.told.ensures
    ∙ ap (λ vs. array (items_view vs)) c.in_ok-push.ensures
    ∙ ap array (items_seen (items ++ v ∷ []))
    ∙ ap (λ ds. array (items_of ds)) (last_placed tell callers place running items v past within told c.loop-place.invariant)
