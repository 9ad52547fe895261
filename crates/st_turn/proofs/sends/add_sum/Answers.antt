use Rattle.std.proofs.Common.{ap, sym, subst, ◌≡◌, ◌∙◌, ◌++◌, ◌∷◌, [], List}
use Rattle.st_turn.specs.declared.sums.SiteSum.{SiteSum}
use Rattle.st_turn.specs.Tallies.{AddsSend, sum_of}
use Rattle.st_turn.proofs.Summing.{sent_pushed}
use Rattle.st_turn.proofs.sends.add_sum.Goals as goal

pub returns-clause-adds : goal.returns-clause-adds
returns-clause-adds c =
    let ms : List SiteSum = c.args.sums.now.items in
    let now : c.push_reserved.new.self.items ≡ ms ++ sum_of c.args.sent ∷ [] = c.push_reserved.ensures.items ∙ ap (λ (m : SiteSum). ms ++ m ∷ []) c.of.ensures in
    subst (AddsSend c.args.sent ms) (sym now) (sent_pushed c.args.sent ms)
