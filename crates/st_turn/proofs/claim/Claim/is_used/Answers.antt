use Rattle.std.proofs.Common.{sym, ap, ◌∙◌, ◌||◌, Bool}
use Rattle.std.specs.List.{list_any}
use Rattle.st_turn.specs.declared.claim.Sent.{Sent}
use Rattle.st_turn.specs.UsedSelectors.{touches_asked}
use Rattle.st_turn.proofs.UsedSelectors.{used_is}
use Rattle.st_turn.proofs.claim.Claim.is_used.Goals as goal

pub returns-else-is_first_touched : goal.returns-else-is_first_touched
returns-else-is_first_touched c =
    let v = c.args.self.now in
    let parts = used_is c.args.selector v.actor v.edits v.before v.after v.steps v.sends c.known.ensures in
    c.is_send_touched.ensures
    ∙ sym (parts ∙ ap (λ (b : Bool). b || list_any (λ (s : Sent). touches_asked v.edits c.args.selector s.site) v.sends) (sym c.is_first_touched.ensures ∙ c.if-is_first_touched.false))
