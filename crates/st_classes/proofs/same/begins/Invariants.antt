use Rattle.std.proofs.Common.{◌≡◌, take}
use Rattle.st_classes.proofs.same.begins.Given as goal

abbrev pub invariant-edits : goal.invariant-edits
invariant-edits l = take l.place l.first ≡ take l.place l.all
