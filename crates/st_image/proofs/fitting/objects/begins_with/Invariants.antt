use Rattle.std.proofs.Common.{◌≡◌, take}
use Rattle.st_image.proofs.fitting.objects.begins_with.Given as goal

abbrev pub invariant-texts : goal.invariant-texts
invariant-texts l = take l.place l.first ≡ take l.place l.all
