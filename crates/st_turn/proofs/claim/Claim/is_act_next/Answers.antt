use Rattle.std.proofs.Common.{sym, ap, subst, ◌∙◌, ◌≡◌, List}
use Rattle.st_classes.specs.declared.edits.Edit.{Edit}
use Rattle.st_turn.specs.declared.body.Body.{Body}
use Rattle.st_turn.specs.declared.claim.ClaimParts.{ClaimParts}
use Rattle.st_turn.specs.BodyFits.{FitsSome}
use Rattle.st_turn.specs.Claims.{ClaimView, IsKept, view_of}
use Rattle.st_turn.proofs.claim.Claim.is_act_next.Goals as goal

pub is_act_next-requires : goal.is_act_next-requires
is_act_next-requires c =
    let i = c.deref.result.now in
    let kept : IsKept i = subst IsKept (sym c.deref.ensures) c.self.invariant in
    let shown : c.after.result.now ≡ (view_of i).after = c.after.ensures ∙ ap (λ (v : ClaimView). v.after) (sym (ap view_of c.deref.ensures ∙ c.self.view_is)) in
    let fits : FitsSome i.token i.actor c.after.result.now = subst (λ (b : Body). FitsSome i.token i.actor b) (sym shown) kept.sound.fits in
    subst (λ (es : List Edit). FitsSome es i.actor c.after.result.now) (sym (c.shown.ensures ∙ ap (λ (p : ClaimParts). p.token) (c.deref-2.ensures ∙ sym c.deref.ensures))) fits
