use Rattle.std.proofs.Common.{◌≡◌, drop}
use Rattle.st_file.specs.Shapes.{fault_among, faults}
use Rattle.st_file.proofs.faults.fault_of.Given as goal

abbrev pub invariant-loop-fault : goal.invariant-loop-fault
invariant-loop-fault l = fault_among faults l.name ≡ fault_among (drop l.fault-index l.fault-items) l.name
