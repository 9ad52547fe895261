use Rattle.std.proofs.Common.{take, All}
use Rattle.st_image.specs.WorldInvariant.{IsWorldActor}
use Rattle.st_image.specs.declared.actor_part.ActorPart.{ActorPart}
use Rattle.st_image.specs.Parts.{actor_of}
use Rattle.st_image.proofs.fitting.actors.actors_fit.Given as goal

abbrev pub invariant-actors : goal.invariant-actors
invariant-actors l = All (λ (a : ActorPart). IsWorldActor l.names l.version l.count (actor_of a)) (take l.place l.actors)
