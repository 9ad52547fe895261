use Rattle.std.proofs.Common.{arith, ap, refl, sym, subst, ◌≡◌, ◌++◌, ◌∷◌, [], length, List}
use Rattle.std.specs.List.{slice_index_or}
use Rattle.st_turn.specs.declared.claim.Sent.{Sent}
use Rattle.st_turn.specs.declared.sums.SiteSum.{SiteSum}
use Rattle.st_turn.specs.Tallies.{AddsSend, AreLast, AreSums, IsLastOf, SendsView, no_sum, with_sent}
use Rattle.st_turn.proofs.LastSums.{last_changed}
use Rattle.st_turn.proofs.Summing.{sent_to_sum, sum_few, sums_more}
use Rattle.st_turn.proofs.sends.Sends.add.Goals as goal

pub add_at-requires-clause-few : goal.add_at-requires-clause-few
add_at-requires-clause-few c =
    let ms = c.self.inside.sums.items in
    let last : IsLastOf c.args.site ms c.in-Some.place = subst (λ (l : List SiteSum). IsLastOf c.args.site l c.in-Some.place) c.as_slice.ensures.value c.in-Some.ensures in
    let few = sum_few c.args.site ms c.in-Some.place c.self.inside.all.items last c.self.invariant.0 in
    let same : length c.self.inside.all.items ≡ length c.args.self.now.items = ap (λ (v : SendsView). length v.items) c.self.view_is in
    omega (arith, few, same, c.requires.few)

pub invariant_of-self : goal.invariant_of-self
invariant_of-self c =
    let s : Sent = record { site = c.args.site; how = c.args.how; state = c.args.state } in
    let ms = c.self.inside.sums.items in
    let i = c.in-Some.place in
    let last : IsLastOf s.site ms i = subst (λ (l : List SiteSum). IsLastOf s.site l i) c.as_slice.ensures.value c.in-Some.ensures in
    let adds : AddsSend s ms c.add_at.new.sums.items = subst (AddsSend s ms) (sym c.add_at.ensures.items) (sent_to_sum s ms i last) in
    let all : c.and-self-inside.result.items ≡ c.self.inside.all.items ++ s ∷ [] = c.and-self-inside.ensures in (
      subst (AreSums c.add_at.new.sums.items) (sym all) (sums_more ms c.add_at.new.sums.items c.self.inside.all.items s c.self.invariant.0 adds),
      subst (AreLast c.self.inside.lasts) (sym c.add_at.ensures.items) (last_changed c.self.inside.lasts ms i (with_sent s (slice_index_or ms i no_sum)) refl c.self.invariant.1),
    )
