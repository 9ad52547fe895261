use Rattle.std.proofs.Common.{[], ◌∷◌, ◌++◌}
use Rattle.std.specs.Arc.{arc_value}
use Rattle.st_classes.specs.Depths.{AreDepths}
use Rattle.st_classes.specs.EditLists.{IsSoundEdit}
use Rattle.st_classes.specs.Tables.{AreRows, IsNaming}
use Rattle.st_classes.proofs.Accepted.{table_push}
use Rattle.st_classes.proofs.version.Version.with_accepted.Goals as goal

pub invariant_of-result : goal.invariant_of-result
invariant_of-result c =
    let sound : IsSoundEdit c.args.edit = rw (← c.edit-accepted.ensures) c.known.ensures in
    let shown : AreRows (c.args.self.now ++ c.args.edit ∷ []) c.in_ok-rows.rows = rw (← c.edit-accepted.ensures) c.in_ok-rows.ensures in
    let deep : AreDepths (c.args.self.now ++ c.args.edit ∷ []) (arc_value c.in_ok-depths.depths) = rw (← c.edit-accepted.ensures) c.in_ok-depths.ensures in
    let named : IsNaming (c.args.self.now ++ c.args.edit ∷ []) (arc_value c.in_ok-named.named) = rw (← c.edit-accepted.ensures) c.in_ok-named.ensures in
    table_push c.args.self.now c.in_ok-edits.edits.items c.args.edit c.in_ok-rows.rows (arc_value c.in_ok-depths.depths) (arc_value c.in_ok-named.named) c.kept.ensures c.methods_known.ensures sound c.requires.accepted c.in_ok-edits.ensures shown deep named
