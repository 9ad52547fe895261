use Rattle.std.proofs.Common.{ℕ}
use Rattle.st_image.specs.declared.actor_part.ActorPart.{ActorPart}
use Rattle.st_image.specs.WorldInvariant.{first_of_phase}

-- the number of the first turn of an actor of a part
abbrev first_of : ActorPart → ℕ
first_of p = first_of_phase p.body.phase
