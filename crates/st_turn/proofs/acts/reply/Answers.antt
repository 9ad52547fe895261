use Rattle.std.proofs.Common.{rules, refl}
use Rattle.st_turn.proofs.Acting.{send_met, reply_is}
use Rattle.st_turn.proofs.acts.reply.Goals as goal

pub give-requires-clause-some : goal.give-requires-clause-some
give-requires-clause-some c = (send_met c.args.version.now c.args.actor c.args.body.now c.in-Frames.frames c.installed-method.result.now c.in-Send.field-0 c.in-Send.count c.known.ensures.lawful c.requires.fits c.in-Frames.is (search rules) c.in-Send.ensures.sound (search rules)).0

pub returns-in-Ok : goal.returns-in-Ok
returns-in-Ok c = λ act e.
    let some = (send_met c.args.version.now c.args.actor c.args.body.now c.in-Frames.frames c.installed-method.result.now c.in-Send.field-0 c.in-Send.count c.known.ensures.lawful c.requires.fits c.in-Frames.is (search rules) c.in-Send.ensures.sound (search rules)).0 in
    let r = reply_is c.args.version.now c.args.actor c.args.body.now c.in-Frames.frames c.installed-method.result.now c.in-Send.field-0 c.in-Send.count c.args.answer c.in-Frames.is (search rules) (search rules) some act e in
    rw (r, c.in-Ok.is, c.give.ensures) refl
