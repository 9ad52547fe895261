use Rattle.st_classes.proofs.Deepening.{rows_moved}
use Rattle.st_classes.proofs.version.Version.rows_with_parent.Goals as goal

pub returns : goal.returns
returns c = rw c.in_ok-rows.ensures (rows_moved c.args.self.now c.args.class c.args.parent c.self.inside.rows c.row.result.now c.in_ok-row.row c.kept.ensures c.requires (rw (← c.self.view_is) c.self.invariant.shown) c.row.ensures c.in_ok-row.ensures)
