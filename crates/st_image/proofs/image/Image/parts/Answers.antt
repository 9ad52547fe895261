use Rattle.st_image.specs.Images.{world}
use Rattle.st_image.specs.Parts.{part_of}
use Rattle.st_image.proofs.OneMore.{given_more}
use Rattle.st_image.proofs.image.Image.parts.Goals as goal

pub loop-actor-preserved : goal.loop-actor-preserved
loop-actor-preserved g c =
    let actors = (world c.args.self.now).actors in
    rw c.in_ok-push.ensures.items (given_more part_of _ _ actors c.loop-actor.actor _ c.in-Ok.ensures.1 c.loop-actor.invariant)
