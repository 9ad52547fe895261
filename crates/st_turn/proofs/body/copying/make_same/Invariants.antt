use Rattle.std.proofs.Common.{◌≡◌, ◌-◌, length, take}
use Rattle.st_turn.proofs.body.copying.make_same.Given as goal

abbrev pub invariant-same : goal.invariant-same
invariant-same l = record {
  len : length l.objects ≡ length l.fn.objects;
  made : take l.at l.objects ≡ take l.at l.others;
}

abbrev pub decreases-same : goal.decreases-same
decreases-same l = length l.objects - l.at
