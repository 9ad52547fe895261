use Rattle.std.proofs.Common.{arith}
use Rattle.std.specs.List.{slice_index_or}
use Rattle.st_turn.specs.Tallies.{no_sum}
use Rattle.st_image.proofs.Tallying.{summed_more, summed_within}
use Rattle.st_image.proofs.tallies.count_sums.Goals as goal

pub count_sum-requires-clause-few : goal.count_sum-requires-clause-few
count_sum-requires-clause-few c =
    let i = c.loop-sum.sum-index in
    let ms = c.args.sums.now in
    omega (arith, c.requires.few (slice_index_or ms i no_sum).site, summed_within c.args.rows.now c.loop-sum.rows ms i c.loop-sum-test.true c.loop-sum.invariant.summed)

pub loop-sum-preserved : goal.loop-sum-preserved
loop-sum-preserved c = record {
  summed = summed_more c.args.rows.now c.loop-sum.rows c.count_sum.new.rows c.args.sums.now c.loop-sum.sum-index _ c.loop-sum-test.true c.loop-sum.invariant.summed c.count_sum.ensures.tally;
  keeps = λ id h. c.count_sum.ensures.keeps id (c.loop-sum.invariant.keeps id h);
}
