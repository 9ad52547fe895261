use Rattle.std.proofs.Common.{◌≡◌, List, Some, sym, ap, ◌∙◌}
use Rattle.st_turn.specs.FrameViews.{FrameView, FramesView}
use Rattle.st_file.specs.Meanings.{frames_of}
use Rattle.st_file.proofs.RunningLast.{frames-push}
use Rattle.st_file.proofs.resolving.bodies.stacked.Goals as goal

pub returns : goal.returns
returns c =
    let with_running : List FrameView → FramesView = λ callers. record { callers = callers; running = c.in-Some.running } in
    let stack : c.in_ok-stack.stack ≡ with_running c.pop.new.self.items = c.in_ok-stack.ensures ∙ ap with_running c.as_slice.ensures.value in
    ap frames_of (sym c.into_vec-callers.ensures ∙ c.in-Some.ensures.items) ∙ frames-push c.pop.new.self.items c.in-Some.running ∙ ap Some (sym stack)
