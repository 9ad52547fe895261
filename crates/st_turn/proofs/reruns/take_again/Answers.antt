use Rattle.std.proofs.Common.{arith, ◌≡◌, ◌∙◌, ◌-◌, ℕ, List, Some, ap, suc, sym}
use Rattle.st_classes.specs.declared.values.ActorId.{ActorId}
use Rattle.st_classes.specs.declared.edits.Edit.{Edit}
use Rattle.st_turn.specs.Steps.{own_steps}
use Rattle.st_turn.proofs.Keeping.{step_fits_some}
use Rattle.st_turn.proofs.LastSteps.{WasTaken, was_taken}
use Rattle.st_turn.proofs.reruns.take_again.Goals as goal

pub steps-preserved : goal.steps-preserved
steps-preserved c =
    let edits : List Edit = c.args.version.now in
    let a : ActorId = c.args.actor in
    let one : c.steps.left ≡ suc (c.steps.left - 1) = omega (arith, c.steps-test.true) in
    let leads = c.steps.invariant.1 in
    let more : own_steps edits a (suc (c.steps.left - 1)) c.steps.body ≡ Some leads.0 = ap (λ (n : ℕ). own_steps edits a n c.steps.body) (sym one) ∙ leads.1 in
    let taken : WasTaken edits a (c.steps.left - 1) c.steps.body c.step_plain.new.body = was_taken edits a (c.steps.left - 1) c.in_ok-_more._more c.steps.body c.step_plain.new.body leads.0 more c.in_ok-_more.ensures.ok in
    (step_fits_some edits a c.steps.body c.step_plain.new.body c.known.ensures.lawful c.known.ensures.sound c.steps.invariant.0 taken.result, (leads.0, taken.rest ∙ more), taken.rest ∙ ap (λ (n : ℕ). own_steps edits a n c.steps.body) (sym one) ∙ c.steps.invariant.2)

pub returns : goal.returns
returns c =
    let none : c.steps.left ≡ 0 = omega (arith, c.steps-test.false) in
    sym c.steps.invariant.2 ∙ ap (λ (n : ℕ). own_steps c.args.version.now c.args.actor n c.steps.body) none
