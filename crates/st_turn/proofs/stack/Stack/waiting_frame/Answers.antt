use Rattle.std.proofs.Common.{arith, sym, ap, ◌∙◌, ◌≡◌, ◌≤◌, ◌-◌, ◌+◌, Some, length, length-take, take, drop, slice_get}
use Rattle.std.proofs.lemmas.Grind.{common_steps}
use Rattle.std.proofs.lemmas.Option.{gets}
use Rattle.st_turn.specs.StackLayout.{end_below}
use Rattle.st_turn.proofs.WaitingFrames.{waiting_laid, waiting_at, waiting_past}
use Rattle.st_turn.proofs.stack.Stack.waiting_frame.Goals as goal

pub returns-in_default : goal.returns-in_default
returns-in_default c =
    let s = c.self.inside in
    let p : length s.callers ≤ c.args.place = grind (arith, common_steps, gets) in
    rw (← c.self.view_is) (sym (waiting_past s.callers (s.at.base - 1) c.args.place (take (s.at.base - 1) s.values.items) p))

pub slice_bounds-frame_at-end : goal.slice_bounds-frame_at-end
slice_bounds-frame_at-end c =
    let s = c.self.inside in
    let g : slice_get s.callers c.args.place ≡ Some c.in-Some.at.now = grind (arith, common_steps, gets) in
    let w = waiting_laid s.callers c.in-Some.at.now (s.at.base - 1) c.args.place c.self.invariant.below g in
    let e : c.end_above-end.result ≡ end_below (drop (c.args.place + 1) s.callers) (s.at.base - 1) = rw c.as_slice-places.ensures at c.end_above-end.ensures in
    omega (arith, e, w.within, length-take c.end_above-end.result c.deref.result.now, ap length c.deref.ensures.value)

pub frame_at-requires-clause-receiver : goal.frame_at-requires-clause-receiver
frame_at-requires-clause-receiver c =
    let s = c.self.inside in
    let g : slice_get s.callers c.args.place ≡ Some c.in-Some.at.now = grind (arith, common_steps, gets) in
    (waiting_laid s.callers c.in-Some.at.now (s.at.base - 1) c.args.place c.self.invariant.below g).receiver

pub frame_at-requires-clause-temps : goal.frame_at-requires-clause-temps
frame_at-requires-clause-temps c =
    let s = c.self.inside in
    let g : slice_get s.callers c.args.place ≡ Some c.in-Some.at.now = grind (arith, common_steps, gets) in
    let w = waiting_laid s.callers c.in-Some.at.now (s.at.base - 1) c.args.place c.self.invariant.below g in
    let e : c.end_above-end.result ≡ end_below (drop (c.args.place + 1) s.callers) (s.at.base - 1) = rw c.as_slice-places.ensures at c.end_above-end.ensures in
    omega (arith, e, w.within, w.temps, length-take c.end_above-end.result c.deref.result.now, ap length c.deref.ensures.value)

pub returns : goal.returns
returns c =
    let s = c.self.inside in
    let g : slice_get s.callers c.args.place ≡ Some c.in-Some.at.now = grind (arith, common_steps, gets) in
    let e : c.end_above-end.result ≡ end_below (drop (c.args.place + 1) s.callers) (s.at.base - 1) = rw c.as_slice-places.ensures at c.end_above-end.ensures in
    let f = rw (c.deref.ensures.value, e) at c.frame_at.ensures in
    rw (← c.self.view_is) (ap (λ r. Some r) f ∙ sym (waiting_at s.callers c.in-Some.at.now (s.at.base - 1) c.args.place s.values.items c.self.invariant.below g))
