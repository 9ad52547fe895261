use Rattle.std.proofs.Common.{◌≡◌, ◌++◌, drop, map}
use Rattle.st_image.specs.Images.{world}
use Rattle.st_image.specs.Parts.{part_of}
use Rattle.st_image.proofs.image.Image.parts.Given as goal

abbrev pub invariant-loop-actor : goal.invariant-loop-actor
invariant-loop-actor g l = l.parts.items ++ map part_of (drop l.actor (world l.self).actors) ≡ map part_of (world l.self).actors
