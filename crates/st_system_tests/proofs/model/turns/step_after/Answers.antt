use Rattle.std.proofs.Common.{◌∙◌, refl}
use Rattle.st_system_tests.proofs.Fitting.{fits_as}
use Rattle.st_system_tests.proofs.model.turns.step_after.Goals as goal

pub step_plain-requires : goal.step_plain-requires
step_plain-requires c = fits_as c.args.start.now.edits c.shown-version.result.now c.args.start.now.actor c.actor-actor.result c.in_ok-body.body c.in_ok-body.body (c.shown-version.ensures ∙ c.token.ensures) c.actor-actor.ensures refl c.in_ok-body.ensures
