use Rattle.st_image.proofs.Deliveries.{has_delivered}
use Rattle.st_image.proofs.image.Image.delivered.Goals as goal

pub returns : goal.returns
returns g c = has_delivered c.args.self.now c.known.ensures
