use Rattle.std.proofs.Common.{◌∙◌}
use Rattle.st_system_tests.proofs.Fitting.{fits_as}
use Rattle.st_system_tests.proofs.model.surviving.used_by.Goals as goal

pub note_steps-requires : goal.note_steps-requires
note_steps-requires c = fits_as c.args.start.now.edits c.shown.result.now c.args.start.now.actor c.actor.result c.args.start.now.after c.in_ok-body.body (c.shown.ensures ∙ c.token.ensures) c.actor.ensures (c.in_ok-body.ensures ∙ c.after.ensures) c.known.ensures.fits
