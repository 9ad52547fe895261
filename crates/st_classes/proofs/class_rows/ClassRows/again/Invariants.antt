use Rattle.std.proofs.Common.{◌≡◌, map, take}
use Rattle.std.specs.Arc.{arc_value}
use Rattle.st_classes.proofs.class_rows.ClassRows.again.Given as goal

abbrev pub invariant-loop-row : goal.invariant-loop-row
invariant-loop-row l = map arc_value l.rows.items ≡ map arc_value (take l.row-index l.row-items)
