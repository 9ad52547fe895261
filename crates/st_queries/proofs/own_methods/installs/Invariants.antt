use Rattle.std.proofs.Common.{◌≡◌}
use Rattle.st_classes.specs.Classes.{class_count}
use Rattle.st_queries.proofs.Counting.{counts}
use Rattle.st_queries.proofs.own_methods.installs.Given as goal

-- the counts of the installs so far
abbrev pub invariant-loop-place : goal.invariant-loop-place
invariant-loop-place l = l.counts.items ≡ counts l.version (class_count l.version) l.place
