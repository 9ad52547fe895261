use Rattle.st_image.proofs.BodyChanges.{body_stays}
use Rattle.st_image.proofs.image.bodies_stay.Goals as goal

pub returns : goal.returns
returns c = body_stays
