use Rattle.std.proofs.Common.{◌∙◌, Some, ap, sym}
use Rattle.st_system_tests.proofs.Fitting.{fits_there}
use Rattle.st_system_tests.proofs.model.turns.is_the_images.Goals as goal

pub returns : goal.returns
returns g c = λ same. fits_there c.args.image.now c.args.actor c.args.body.now c.known.ensures (sym c.in-Some.ensures ∙ ap Some (sym (c.is_same.ensures.0 same)))
