use Rattle.std.proofs.Common.{◌≡◌, take}
use Rattle.st_classes.proofs.same.same_code.Given as goal

abbrev pub invariant-code : goal.invariant-code
invariant-code l = take l.place l.a ≡ take l.place l.b
