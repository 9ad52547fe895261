use Rattle.st_classes.proofs.Growing.{rows_at}
use Rattle.st_classes.proofs.Accepted.{install_kernel}
use Rattle.st_classes.proofs.version.Version.rows_with_method.Goals as goal

pub returns : goal.returns
returns c = λ e a. rw c.in_ok-rows.ensures (rows_at c.args.self.now e c.args.class c.args.selector c.args.method c.self.inside.rows c.row.result.now c.in_ok-row.row (rw (← c.self.view_is) c.self.invariant.shown) a (install_kernel c.args.self.now c.args.class c.args.selector c.requires) c.row.ensures c.in_ok-row.ensures)
