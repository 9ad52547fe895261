use Rattle.std.proofs.Common.{◌∙◌, subst}
use Rattle.std.proofs.lemmas.List.{take_all}
use Rattle.st_image.proofs.Placing.{Placed, placed_more}
use Rattle.st_image.proofs.tallies.Tallies.make_places.Goals as goal

pub sums-preserved : goal.sums-preserved
sums-preserved c = record {
  same = λ id. c.make_place.ensures.same id ∙ c.sums.invariant.same id;
  placed = placed_more c.sums.self c.make_place.new.self c.args.sums.now c.sums.place _ c.sums-test.true c.make_place.ensures.keeps c.sums.invariant.placed c.in_ok-make_place.ensures.ok;
}

pub returns-clause-ok : goal.returns-clause-ok
returns-clause-ok c = subst (Placed c.sums.self) (take_all c.sums.place c.args.sums.now c.sums-test.false) c.sums.invariant.placed
