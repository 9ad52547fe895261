use Rattle.std.proofs.Common.{◌∙◌, ap, sym, arith}
use Rattle.std.specs.Str.{bytes_eq}
use Rattle.st_classes.specs.declared.faults.Fault.TheVariants.{NotUnderstood}
use Rattle.st_file.specs.Shapes.{faults}
use Rattle.st_file.proofs.FaultNames.{fault_among-later}
use Rattle.st_file.proofs.faults.fault_of.Goals as goal

pub loop-fault-preserved : goal.loop-fault-preserved
loop-fault-preserved c =
    let other = ap (bytes_eq c.args.name.now) (sym c.fault_name.ensures) ∙ sym c.eq.ensures ∙ c.if-eq.false in
    c.loop-fault.invariant ∙ fault_among-later faults c.loop-fault.fault-index NotUnderstood c.args.name.now (omega arith) other
