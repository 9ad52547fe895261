use Rattle.std.proofs.Common.{ap, ◌∙◌, map}
use Rattle.std.proofs.Math.ListN.{set}
use Rattle.std.proofs.lemmas.List.{map-set}
use Rattle.std.specs.Arc.{arc_value}
use Rattle.st_classes.specs.declared.class_rows.ClassRow.{ClassRow}
use Rattle.st_classes.proofs.class_rows.ClassRows.set.Goals as goal

pub returns : goal.returns
returns c = rw (← c.self.view_is) (map-set arc_value c.self.inside.rows.items c.args.class.0 c.in_ok-self-inside.field-0 ∙ ap (λ (row : ClassRow). set (map arc_value c.self.inside.rows.items) c.args.class.0 row) c.in_ok-self-inside.ensures.ok)
