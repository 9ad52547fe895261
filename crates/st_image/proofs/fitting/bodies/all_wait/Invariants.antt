use Rattle.std.proofs.Common.{All, take}
use Rattle.st_turn.specs.BodyFits.{Waits}
use Rattle.st_image.specs.WorldInvariant.{given}
use Rattle.st_image.proofs.fitting.bodies.all_wait.Given as goal

abbrev pub invariant-frames : goal.invariant-frames
invariant-frames l = All (Waits (given l.names l.actors) l.version l.objects) (take l.place l.frames.callers)
