-- Frames of which the last runs.
use Rattle.std.proofs.Common.{◌≡◌, List, [], ◌∷◌, ◌++◌, Some, refl, ap}
use Rattle.st_turn.specs.FrameViews.{FrameView}
use Rattle.st_file.specs.Meanings.{frames_of, last_runs, with_caller}

runs-push : (f : FrameView) (callers : List FrameView) (running : FrameView) → last_runs f (callers ++ running ∷ []) ≡ record { callers = f ∷ callers; running = running }
runs-push f [] running = refl
runs-push f (g ∷ gs) running = ap (with_caller f) (runs-push g gs running)

pub frames-push : (callers : List FrameView) (running : FrameView) → frames_of (callers ++ running ∷ []) ≡ Some (record { callers = callers; running = running })
frames-push [] running = refl
frames-push (f ∷ fs) running = ap Some (runs-push f fs running)
