use Rattle.std.proofs.Common.{rules}
use Rattle.st_turn.proofs.Acting.{send_met}
use Rattle.st_turn.proofs.acts.next_act.Goals as goal

pub receiver_below-receiver-requires : goal.receiver_below-receiver-requires
receiver_below-receiver-requires c = (send_met c.args.version.now c.args.actor c.args.body.now c.in-Frames.frames c.installed-method.result.now c.in-Send.selector c.in-Send.count c.known.ensures.lawful c.requires c.in-Frames.is (search rules) c.in-Send.ensures.sound (search rules)).0

pub arguments-requires : goal.arguments-requires
arguments-requires c = (send_met c.args.version.now c.args.actor c.args.body.now c.in-Frames.frames c.installed-method.result.now c.in-Send.selector c.in-Send.count c.known.ensures.lawful c.requires c.in-Frames.is (search rules) c.in-Send.ensures.sound (search rules)).0
