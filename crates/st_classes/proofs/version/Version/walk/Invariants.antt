use Rattle.std.proofs.Common.{◌≡◌, length, true}
use Rattle.st_classes.specs.Classes.{chain, is_class}
use Rattle.st_classes.specs.Walks.{walk}
use Rattle.st_classes.proofs.version.Version.walk.Given as goal

abbrev pub invariant-up : goal.invariant-up
invariant-up l = (is_class l.self l.at ≡ true) × (walk l.self l.at l.selector ≡ walk l.self l.fn.class l.selector)

abbrev pub decreases-up : goal.decreases-up
decreases-up l = length (chain l.self l.at)
