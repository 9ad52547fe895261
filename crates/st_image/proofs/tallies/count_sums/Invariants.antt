use Rattle.std.proofs.Common.{take}
use Rattle.st_image.specs.Tallies.{KeepsPlaces, Summed}
use Rattle.st_image.proofs.tallies.count_sums.Given as goal

abbrev pub invariant-loop-sum : goal.invariant-loop-sum
invariant-loop-sum l = record {
  summed : Summed l.fn.rows (take l.sum-index l.sums) l.rows;
  keeps : KeepsPlaces l.fn.rows l.rows;
}
