use Rattle.std.proofs.Common.{◌≡◌, ◌∙◌, List, ap, subst, sym}
use Rattle.st_classes.specs.declared.values.ActorId.{ActorId}
use Rattle.st_classes.specs.declared.edits.Edit.{Edit}
use Rattle.st_turn.specs.declared.body.Body.{Body}
use Rattle.st_turn.specs.declared.claim.ClaimParts.{ClaimParts}
use Rattle.st_turn.specs.BodyFits.{FitsSome}
use Rattle.st_turn.specs.Reruns.{LeadsSomewhere}
use Rattle.st_turn.proofs.reruns.Rerun.of.Goals as goal

pub invariant_of-result : goal.invariant_of-result
invariant_of-result c =
    let was : ClaimParts = c.args.parts.value in
    let token : c.deref_mut-2.result.now.token ≡ was.token = ap (λ (p : ClaimParts). p.token) c.deref_mut-2.ensures.value ∙ ap (λ (p : ClaimParts). p.token) c.deref_mut.ensures.value in
    let actor : c.deref_mut-2.result.now.actor ≡ was.actor = ap (λ (p : ClaimParts). p.actor) c.deref_mut-2.ensures.value ∙ ap (λ (p : ClaimParts). p.actor) c.deref_mut.ensures.value in
    let before : c.deref_mut-2.result.now.before ≡ was.before = ap (λ (p : ClaimParts). p.before) c.deref_mut-2.ensures.value ∙ ap (λ (p : ClaimParts). p.before) c.deref_mut.ensures.value in
    subst (λ (b : Body). FitsSome c.deref_mut-2.result.now.token c.deref_mut-2.result.now.actor b × LeadsSomewhere c.deref_mut-2.result.now.token c.deref_mut-2.result.now.actor c.args.steps b) (sym before)
    (subst (λ (a : ActorId). FitsSome c.deref_mut-2.result.now.token a was.before × LeadsSomewhere c.deref_mut-2.result.now.token a c.args.steps was.before) (sym actor)
    (subst (λ (es : List Edit). FitsSome es was.actor was.before × LeadsSomewhere es was.actor c.args.steps was.before) (sym token) (c.requires.fits, c.requires.leads)))
