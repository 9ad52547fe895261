use Rattle.std.proofs.Common.{ap, ◌≡◌, ◌∙◌, List}
use Rattle.std.specs.List.{list_any}
use Rattle.st_classes.specs.declared.edits.Edit.{Edit}
use Rattle.st_turn.specs.declared.claim.ClaimParts.{ClaimParts}
use Rattle.st_turn.specs.declared.claim.Sent.{Sent}
use Rattle.st_turn.specs.declared.sums.SiteSum.{SiteSum}
use Rattle.st_turn.specs.Claims.{ClaimView}
use Rattle.st_turn.specs.UsedSelectors.{touches_asked}
use Rattle.st_turn.proofs.claim.Claim.is_send_touched.Goals as goal

pub returns : goal.returns
returns c =
    let v = c.args.self.now in
    let edits : c.shown.result.now ≡ v.edits = c.shown.ensures ∙ ap (λ (p : ClaimParts). p.token) c.deref.ensures ∙ ap (λ (x : ClaimView). x.edits) c.self.view_is in
    let sends : c.deref-2.result.now.sends.items ≡ v.sends = ap (λ (p : ClaimParts). p.sends.items) c.deref-2.ensures ∙ ap (λ (x : ClaimView). x.sends) c.self.view_is in
    c.touches_some.ensures
    ∙ ap (λ (es : List Edit). list_any (λ (m : SiteSum). touches_asked es c.args.selector m.site) c.sums.result.now) edits
    ∙ c.sums.ensures.sites (touches_asked v.edits c.args.selector)
    ∙ ap (λ (ss : List Sent). list_any (λ (s : Sent). touches_asked v.edits c.args.selector s.site) ss) sends
