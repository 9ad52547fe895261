use Rattle.std.proofs.Common.{◌≡◌, Some, All, slice_get, take_all, sym, subst, arith}
use Rattle.std.proofs.lemmas.List.Elements.{All-more}
use Rattle.std.proofs.lemmas.Option.{get_or_from_slice_get, slice_get_within}
use Rattle.st_file.specs.Ranges.{FrameIsInRange}
use Rattle.st_file.proofs.ranges.waiting_in_range.Goals as goal

pub loop-place-preserved : goal.loop-place-preserved
loop-place-preserved c =
    let callers = c.args.stack.now.callers in
    let place = c.loop-place.place in
    let frame = c.in-Some.frame in
    let at : slice_get callers place ≡ Some frame = sym c.in-Some.ensures in
    All-more FrameIsInRange callers place frame (slice_get_within callers place frame at) c.loop-place.invariant (subst FrameIsInRange (sym (get_or_from_slice_get callers place frame frame at)) c.frame_in_range.ensures)

pub returns : goal.returns
returns c =
    subst (All FrameIsInRange) (take_all c.loop-place.place c.args.stack.now.callers (omega (arith, c.loop-place-test.false, c.waiting-place-end.ensures))) c.loop-place.invariant
