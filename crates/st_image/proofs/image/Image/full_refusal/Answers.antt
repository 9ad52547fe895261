use Rattle.st_image.proofs.Committing.{room_told}
use Rattle.st_image.proofs.image.Image.full_refusal.Goals as goal

pub returns : goal.returns
returns g c = room_told c.args.self.now c.args.claim.now c.items_to_commit.result c.args.steps c.steps_room_refusal.result c.steps_room_refusal.ensures c.items_to_commit.ensures.items c.requires.steps c.requires.survives c.requires.unchanged
