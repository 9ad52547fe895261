use Rattle.std.proofs.Common.{◌∙◌, refl, sym}
use Rattle.st_system_tests.proofs.Fitting.{fits_as}
use Rattle.st_system_tests.proofs.model.turns.body_after.Goals as goal

pub take_steps-requires : goal.take_steps-requires
take_steps-requires c = fits_as c.args.start.now.edits c.shown-version.result.now c.args.start.now.actor c.actor-actor.result c.args.start.now.after c.in_ok-body.body (c.shown-version.ensures ∙ c.token.ensures) c.actor-actor.ensures (c.in_ok-body.ensures ∙ c.after.ensures) c.known.ensures.fits

pub returns : goal.returns
returns c = fits_as c.shown-version.result.now c.args.start.now.edits c.actor-actor.result c.args.start.now.actor c.take_steps.new.body c.take_steps.new.body (sym (c.shown-version.ensures ∙ c.token.ensures)) (sym c.actor-actor.ensures) refl c.take_steps.ensures
