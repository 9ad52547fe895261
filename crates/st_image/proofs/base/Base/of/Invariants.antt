use Rattle.std.proofs.Common.{◌≡◌, take}
use Rattle.st_image.specs.Parts.{world_of_parts}
use Rattle.st_image.proofs.base.Base.of.Given as goal

abbrev pub invariant-parts : goal.invariant-parts
invariant-parts l = l.base ≡ world_of_parts l.fn.token (take l.place l.parts) l.fn.clients
