use Rattle.std.proofs.Common.{◌∙◌, List, sym, subst}
use Rattle.st_classes.specs.declared.values.ActorId.{ActorId}
use Rattle.st_classes.specs.declared.edits.Edit.{Edit}
use Rattle.st_turn.specs.declared.body.Body.{Body}
use Rattle.st_turn.specs.BodyFits.{FitsSome}
use Rattle.st_turn_tests.proofs.plain.plain_steps.Goals as goal

pub take_steps-requires : goal.take_steps-requires
take_steps-requires c =
    let claim = c.args.claim.now in
    let version = subst (λ (es : List Edit). FitsSome es claim.actor claim.after) (sym (c.shown-version.ensures ∙ c.token.ensures)) c.known.ensures.fits in
    let actor = subst (λ (a : ActorId). FitsSome c.shown-version.result.now a claim.after) (sym c.actor.ensures) version in
    subst (λ (b : Body). FitsSome c.shown-version.result.now c.actor.result b) (sym (c.in_ok-body.ensures ∙ c.after.ensures)) actor
