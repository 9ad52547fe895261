use Rattle.std.proofs.Common.{◌∙◌, refl}
use Rattle.st_image.specs.Images.{world}
use Rattle.st_system_tests.proofs.Fitting.{fits_as}
use Rattle.st_system_tests.proofs.model.turns.claim_of.Goals as goal

pub new-requires : goal.new-requires
new-requires g c = fits_as (world c.args.image.now).edits c.in_ok-token.token c.args.actor c.args.actor c.args.body.now c.in_ok-body.body (c.in_ok-token.ensures ∙ c.in_ok-table.ensures ∙ c.version.ensures) refl c.in_ok-body.ensures (c.is_the_images.ensures c.if-not-is_the_images.false)
