use Rattle.std.proofs.Common.{◌≡◌, length, true}
use Rattle.st_classes.specs.Classes.{chain, is_class}
use Rattle.st_classes.specs.EditRules.{is_among}
use Rattle.st_classes.proofs.version.Version.is_above.Given as goal

abbrev pub invariant-up : goal.invariant-up
invariant-up l = (is_class l.self l.at ≡ true) × (is_among (chain l.self l.at) l.class ≡ is_among (chain l.self l.fn.below) l.class)

abbrev pub decreases-up : goal.decreases-up
decreases-up l = length (chain l.self l.at)
