use Rattle.std.proofs.Common.{◌≡◌, ◌∙◌, List, ap, subst, sym}
use Rattle.st_classes.specs.declared.values.ActorId.{ActorId}
use Rattle.st_classes.specs.declared.edits.Edit.{Edit}
use Rattle.st_turn.specs.declared.body.Body.{Body}
use Rattle.st_turn.specs.declared.claim.ClaimParts.{ClaimParts}
use Rattle.st_turn.specs.BodyFits.{FitsSome}
use Rattle.st_turn.proofs.reruns.Rerun.body.Goals as goal

pub take_again-requires-clause-fits : goal.take_again-requires-clause-fits
take_again-requires-clause-fits c =
    let parts : ClaimParts = c.self.inside.parts.value in
    let version : c.shown-version.result.now ≡ parts.token = c.shown-version.ensures ∙ ap (λ (p : ClaimParts). p.token) c.deref-2.ensures in
    let actor : c.deref-3.result.now.actor ≡ parts.actor = ap (λ (p : ClaimParts). p.actor) c.deref-3.ensures in
    let body : c.in_ok-body.body ≡ parts.before = c.in_ok-body.ensures ∙ ap (λ (p : ClaimParts). p.before) c.deref.ensures in
    subst (λ (es : List Edit). FitsSome es c.deref-3.result.now.actor c.in_ok-body.body) (sym version)
    (subst (λ (a : ActorId). FitsSome parts.token a c.in_ok-body.body) (sym actor)
    (subst (λ (b : Body). FitsSome parts.token parts.actor b) (sym body) c.self.invariant.0))
