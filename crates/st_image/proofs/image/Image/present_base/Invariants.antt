use Rattle.std.proofs.Common.{◌≡◌, ◌++◌, drop, map}
use Rattle.st_image.specs.Images.{world}
use Rattle.st_image.specs.Parts.{rebase, rebased}
use Rattle.st_image.specs.Worlds.{World}
use Rattle.st_image.proofs.image.Image.present_base.Given as goal

abbrev pub invariant-loop-actor : goal.invariant-loop-actor
invariant-loop-actor g l = (let w : World = record l.base { actors = l.base.actors ++ map rebased (drop l.actor (world l.self).actors) } in w) ≡ rebase (world l.self)
