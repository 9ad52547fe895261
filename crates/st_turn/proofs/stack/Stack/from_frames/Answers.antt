use Rattle.std.proofs.Common.{arith, ◌∙◌, ◌≡◌, length}
use Rattle.std.proofs.lemmas.Grind.{common_steps}
use Rattle.st_turn.specs.FrameViews.{FramesView}
use Rattle.st_turn.proofs.StackMade.{Laid, made_of, stacked_of}
use Rattle.st_turn.proofs.stack.Stack.from_frames.Goals as goal

pub invariant_of-result : goal.invariant_of-result
invariant_of-result c =
    let fs : FramesView = record { callers = c.args.callers.now; running = c.args.running.now } in
    let t : c.len-top.result ≡ length c.lay.new.values.items = grind (arith, common_steps) in
    let h : Laid fs c.lay_all.new.values.items c.lay.new.values.items c.from_vec-callers.result c.in_ok-at.at c.len-top.result = record { below = c.in_ok-lay_all.ensures.values; values = c.in_ok-at.ensures.values; callers = c.from_vec-callers.ensures ∙ c.in_ok-lay_all.ensures.places; place = c.in_ok-at.ensures.place; ends = t } in
    let size : length c.resize.new.self.items ≡ c.max-size.result = grind (arith, common_steps) in
    stacked_of fs c.lay_all.new.values.items c.lay.new.values.items c.from_vec-callers.result c.in_ok-at.at c.len-top.result (length c.resize.new.self.items) h (omega arith) (omega arith)

pub returns : goal.returns
returns c =
    let fs : FramesView = record { callers = c.args.callers.now; running = c.args.running.now } in
    let t : c.len-top.result ≡ length c.lay.new.values.items = grind (arith, common_steps) in
    let h : Laid fs c.lay_all.new.values.items c.lay.new.values.items c.from_vec-callers.result c.in_ok-at.at c.len-top.result = record { below = c.in_ok-lay_all.ensures.values; values = c.in_ok-at.ensures.values; callers = c.from_vec-callers.ensures ∙ c.in_ok-lay_all.ensures.places; place = c.in_ok-at.ensures.place; ends = t } in
    made_of fs c.lay_all.new.values.items c.lay.new.values.items c.resize.new.self.items c.from_vec-callers.result c.in_ok-at.at c.len-top.result _ _ h c.in_ok-resize.ensures.items (omega arith)
