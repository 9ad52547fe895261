use Rattle.st_classes.proofs.Defining.{rows_define}
use Rattle.st_classes.proofs.version.Version.rows_with_class.Goals as goal

pub returns : goal.returns
returns c = rw c.in_ok-rows.ensures (rows_define c.args.self.now c.args.name.now c.args.parent c.args.added.now c.kept.ensures c.requires c.self.inside.rows (rw (← c.self.view_is) c.self.invariant.shown) c.row.result.now c.in_ok-row.row c.row.ensures c.in_ok-row.ensures)
