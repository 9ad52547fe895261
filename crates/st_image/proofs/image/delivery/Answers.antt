use Rattle.st_image.proofs.Deliveries.{delivers}
use Rattle.st_image.proofs.image.delivery.Goals as goal

pub returns : goal.returns
returns c = delivers
