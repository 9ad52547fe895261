use Rattle.st_classes.specs.Classes.{classes, reparented}
use Rattle.st_classes.proofs.Deepening.{DepthsTo}
use Rattle.st_classes.proofs.version.Version.depths_with_parent.Given as goal

abbrev pub invariant-loop-number : goal.invariant-loop-number
invariant-loop-number l = DepthsTo (reparented (classes l.self) l.class.0 l.parent) l.number l.counts.items
