use Rattle.std.proofs.Common.{◌≡◌, length, true}
use Rattle.st_classes.specs.Classes.{chain, is_class}
use Rattle.st_queries.specs.Answers.{holder_in}
use Rattle.st_queries.proofs.sources.holder.Given as goal

-- the walk from here finds what the walk from the class finds
abbrev pub invariant-up : goal.invariant-up
invariant-up l = (is_class l.version l.at ≡ true) × (holder_in l.version l.selector (chain l.version l.at) ≡ holder_in l.version l.selector (chain l.version l.fn.class))

abbrev pub decreases-up : goal.decreases-up
decreases-up l = length (chain l.version l.at)
