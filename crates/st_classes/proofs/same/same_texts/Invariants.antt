use Rattle.std.proofs.Common.{◌≡◌, take}
use Rattle.st_classes.proofs.same.same_texts.Given as goal

abbrev pub invariant-texts : goal.invariant-texts
invariant-texts l = take l.place l.a ≡ take l.place l.b
