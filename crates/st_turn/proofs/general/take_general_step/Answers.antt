use Rattle.std.proofs.Common.{length, lt-ltb}
use Rattle.st_classes.specs.declared.values.Value.TheVariants.{Local}
use Rattle.st_turn.proofs.Meets.{receives}
use Rattle.st_turn.proofs.general.take_general_step.Goals as goal

pub dispatch-requires-clause-receiver : goal.dispatch-requires-clause-receiver
dispatch-requires-clause-receiver g c =
    let h = c.requires.fits in
    receives h.0 c.args.version.now c.args.body.now.objects (Local 0) h.4.objects (lt-ltb 0 (length c.args.body.now.objects) h.4.some)
