use Rattle.std.proofs.Common.{rules, ◌≡◌, [], None}
use Rattle.st_turn.proofs.ClaimSteps.{none_kept}
use Rattle.st_turn.proofs.claim.Claim.new.Goals as goal

pub invariant_of-result : goal.invariant_of-result
invariant_of-result c =
    let p = c.in-Ok.parts.value in
    let is : (p.actor ≡ c.args.actor) × (p.token ≡ c.args.token) × (p.before ≡ c.args.body) × (p.after ≡ None) × (p.steps ≡ 0) × (p.sends.items ≡ []) × (p.next_copy ≡ None) = search rules in
    none_kept p c.args.actor c.args.token c.args.body c.requires is
