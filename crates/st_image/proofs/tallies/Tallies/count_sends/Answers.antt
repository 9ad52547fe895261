use Rattle.std.proofs.Common.{arith, ap, ◌<◌, ◌^◌, ◌≡◌, ◌∙◌, List, subst, sym, true}
use Rattle.std.specs.Prelude.{All}
use Rattle.st_classes.specs.declared.keys.SiteId.{SiteId}
use Rattle.st_turn.specs.declared.sums.SiteSum.{SiteSum}
use Rattle.st_turn.specs.declared.tally.Tally.{Tally}
use Rattle.st_turn.specs.Tallies.{after_sums, sends_of}
use Rattle.st_turn.proofs.Summing.{sends_few}
use Rattle.st_image.specs.Tallies.{has_place, tally_at}
use Rattle.st_image.proofs.Tallying.{all_sums}
use Rattle.st_image.proofs.tallies.Tallies.count_sends.Goals as goal

pub count_sums-requires-clause-places : goal.count_sums-requires-clause-places
count_sums-requires-clause-places c =
    let ms = c.sums.result.now in
    let same : c.as_mut_slice.result.now ≡ c.args.self.now = c.as_mut_slice.ensures.value ∙ c.self.view_is in
    subst (λ (rows : List (List Tally)). All (λ (m : SiteSum). has_place rows m.site ≡ true) ms) (sym same) (all_sums ms c.args.sends.now.items c.sums.ensures (has_place c.args.self.now) c.requires.places)

pub count_sums-requires-clause-few : goal.count_sums-requires-clause-few
count_sums-requires-clause-few c =
    let ms = c.sums.result.now in
    let ss = c.args.sends.now.items in
    let same : c.as_mut_slice.result.now ≡ c.args.self.now = c.as_mut_slice.ensures.value ∙ c.self.view_is in
    subst (λ (rows : List (List Tally)). (id : SiteId) → sends_of (after_sums id ms (tally_at rows id)) < 2 ^ 64) (sym same) (λ id.
    let t : Tally = tally_at c.args.self.now id in
    omega (arith, c.requires.few id, sends_few id ss t, ap (λ (u : Tally). sends_of u) (c.sums.ensures.same id t)))
