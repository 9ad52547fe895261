use Rattle.std.proofs.Common.{◌≡◌}
use Rattle.st_turn.specs.BodyFits.{FitsSome}
use Rattle.st_turn.specs.Reruns.{LeadsSomewhere}
use Rattle.st_turn.specs.Steps.{own_steps}
use Rattle.st_turn.proofs.reruns.take_again.Given as goal

-- what is left leads to where all of it does
abbrev pub invariant-steps : goal.invariant-steps
invariant-steps l =
    FitsSome l.fn.version l.fn.actor l.body
    × LeadsSomewhere l.fn.version l.fn.actor l.left l.body
    × (own_steps l.fn.version l.fn.actor l.left l.body ≡ own_steps l.fn.version l.fn.actor l.fn.steps l.fn.body)

abbrev pub decreases-steps : goal.decreases-steps
decreases-steps l = l.left
