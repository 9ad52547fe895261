use Rattle.std.proofs.Common.{take, All}
use Rattle.st_turn.specs.BodyFits.{IsThere}
use Rattle.st_image.specs.WorldInvariant.{given}
use Rattle.st_image.proofs.fitting.values.are_there.Given as goal

abbrev pub invariant-values : goal.invariant-values
invariant-values l = All (IsThere (given l.names l.actors) l.version l.objects) (take l.place l.values)
