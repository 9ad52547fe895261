use Rattle.std.proofs.Common.{rules, ap, sym, ◌∙◌}
use Rattle.std.specs.Prelude.{is_some}
use Rattle.st_turn.specs.Steps.{arguments}
use Rattle.st_turn.proofs.Acting.{length_arguments, send_met, sends_act}
use Rattle.st_turn.proofs.acts.is_act_next.Goals as goal

pub receiver_below-requires : goal.receiver_below-requires
receiver_below-requires c = (send_met c.args.version.now c.args.actor c.args.body.now c.in-Frames.frames c.installed-method.result.now c.in-Send.selector c.in-Send.count c.known.ensures.lawful c.requires c.in-Frames.is (search rules) c.in-Send.ensures.sound (search rules)).0

pub returns-in-Send : goal.returns-in-Send
returns-in-Send c =
    let fs = c.in-Frames.frames in
    let some = (send_met c.args.version.now c.args.actor c.args.body.now fs c.installed-method.result.now c.in-Send.selector c.in-Send.count c.known.ensures.lawful c.requires c.in-Frames.is (search rules) c.in-Send.ensures.sound (search rules)).0 in
    let e = sends_act c.args.version.now c.args.actor c.args.body.now fs c.installed-method.result.now c.in-Send.selector c.in-Send.count c.in-Frames.is (search rules) (search rules) in
    c.is_act.ensures (arguments c.in-Send.count fs.running.operands) (length_arguments fs.running.operands c.in-Send.count some) ∙ rw c.receiver_below.ensures (ap is_some (sym e))
