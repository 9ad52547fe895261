use Rattle.std.proofs.Common.{◌∙◌, refl}
use Rattle.st_system_tests.proofs.Fitting.{fits_as}
use Rattle.st_system_tests.proofs.model.Model.act_next.Goals as goal

pub next_act-requires : goal.next_act-requires
next_act-requires c = fits_as c.args.start.now.edits c.shown-version.result.now c.args.start.now.actor c.actor-actor.result c.args.body.now c.args.body.now (c.shown-version.ensures ∙ c.token.ensures) c.actor-actor.ensures refl c.requires

pub reply-requires-clause-fits : goal.reply-requires-clause-fits
reply-requires-clause-fits c = fits_as c.args.start.now.edits c.shown-version.result.now c.args.start.now.actor c.actor-actor.result c.args.body.now c.args.body.now (c.shown-version.ensures ∙ c.token.ensures) c.actor-actor.ensures refl c.requires
