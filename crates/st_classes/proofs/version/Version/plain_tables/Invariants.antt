use Rattle.std.proofs.Common.{map, take}
use Rattle.st_classes.specs.ClassRows.{plain_class}
use Rattle.st_classes.specs.Tables.{ArePlain}
use Rattle.st_classes.proofs.version.Version.plain_tables.Given as goal

abbrev pub invariant-loop-class : goal.invariant-loop-class
invariant-loop-class l = ArePlain (take l.class-index (map (λ c. plain_class c.0.now c.1) l.classes)) l.rows l.index
