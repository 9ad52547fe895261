use Rattle.std.proofs.Common.{◌≡◌, ◌≤◌, ◌-◌, length, take}
use Rattle.st_turn.proofs.body.copying.add_rest.Given as goal

abbrev pub invariant-rest : goal.invariant-rest
invariant-rest l = record {
  first : l.objects.items ≡ take (length l.objects.items) l.others;
  few : length l.objects.items ≤ length l.others;
}

abbrev pub decreases-rest : goal.decreases-rest
decreases-rest l = length l.others - length l.objects.items
