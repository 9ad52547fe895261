use Rattle.std.proofs.Common.{refl, rules, sym, ap, ◌∙◌, ◌≡◌, Bool, true, false, not, drop, length}
use Rattle.std.specs.List.{list_any}
use Rattle.st_turn.specs.Claims.{used}
use Rattle.st_turn.specs.Surviving.{edits_since, touched, touches_used}
use Rattle.st_turn.proofs.UsedSelectors.{any_touched}
use Rattle.st_turn.proofs.claim.Claim.survives.Goals as goal

not_true : (b : Bool) → not b ≡ true → b ≡ false
not_true true h = cc
not_true false h = refl

pub returns : goal.returns
returns c =
    let v = c.args.self.now in
    let es = c.args.version.now in
    let from : c.edits.result ≡ length v.edits = search rules in
    let is : c.is_touched_from.result ≡ list_any (touched (edits_since v es)) (used v) =
    c.is_touched_from.ensures ∙ ap (λ n. list_any (touches_used v) (drop n es)) from ∙ sym (any_touched (used v) (edits_since v es)) in (
      λ h. record { begins = c.requires; untouched = sym is ∙ not_true c.is_touched_from.result h },
      λ s. ap not (is ∙ s.untouched),
    )
