use Rattle.std.proofs.Common.{◌≡◌, ℕ, ◌<◌, false}
use Rattle.st_classes.specs.Kernel.{class}
use Rattle.st_classes.specs.Classes.{classes, reparented}
use Rattle.st_classes.specs.EditRules.{is_too_deep}
use Rattle.st_classes.proofs.version.Version.is_too_deep.Given as goal

abbrev pub invariant-loop-number : goal.invariant-loop-number
invariant-loop-number l = (k : ℕ) → k < l.number → is_too_deep (reparented (classes l.self) l.class.0 l.parent) (class k) ≡ false
