use Rattle.st_image.proofs.RanSteps.{each_step_ran}
use Rattle.st_image.proofs.image.Image.sends_ran.Goals as goal

pub returns : goal.returns
returns g c = each_step_ran c.args.self.now c.known.ensures
