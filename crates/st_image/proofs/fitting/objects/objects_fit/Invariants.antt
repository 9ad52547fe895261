use Rattle.std.proofs.Common.{length, take, All}
use Rattle.st_turn.specs.BodyFits.{IsObject}
use Rattle.st_image.specs.WorldInvariant.{given}
use Rattle.st_image.proofs.fitting.objects.objects_fit.Given as goal

abbrev pub invariant-objects : goal.invariant-objects
invariant-objects l = All (IsObject (given l.names l.actors) l.version (length l.objects)) (take l.place l.objects)
