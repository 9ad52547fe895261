use Rattle.std.proofs.Common.{subst, sym}
use Rattle.st_classes.specs.Names.{AreNames}
use Rattle.st_classes.proofs.Naming.{AreNames-kernel}
use Rattle.st_classes.proofs.name_table.NameTable.kernel.Goals as goal

pub invariant_of-result : goal.invariant_of-result
invariant_of-result c = subst AreNames (sym c.in_ok-texts.ensures) AreNames-kernel
