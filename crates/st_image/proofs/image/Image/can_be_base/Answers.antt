use Rattle.st_image.specs.Images.{constants, world}
use Rattle.st_image.proofs.Rebasing.{base_actors, base_senders, delivered_order}
use Rattle.st_image.proofs.image.Image.can_be_base.Goals as goal

pub returns-clause-actors : goal.returns-clause-actors
returns-clause-actors g c =
    let i = c.args.self.now in
    let known = c.known.ensures in
    base_actors (constants i) (world i) known.standing (delivered_order i known c.delivered.ensures) known.few_actors

pub returns-clause-senders : goal.returns-clause-senders
returns-clause-senders g c =
    let i = c.args.self.now in
    let known = c.known.ensures in
    base_senders (constants i) (world i) known.standing (delivered_order i known c.delivered.ensures)
