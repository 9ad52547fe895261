use Rattle.std.proofs.Common.{◌≡◌, take}
use Rattle.st_turn.proofs.body.copying.same_objects.Given as goal

abbrev pub invariant-loop-i : goal.invariant-loop-i
invariant-loop-i l = take l.i l.some ≡ take l.i l.others
