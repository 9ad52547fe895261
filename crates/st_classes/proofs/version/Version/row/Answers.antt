use Rattle.st_classes.proofs.Rows.{row_read, class_within}
use Rattle.st_classes.proofs.version.Version.row.Goals as goal

pub of-requires : goal.of-requires
of-requires c = class_within _ _ _ _ c.self.invariant c.args.class (rw c.self.view_is c.requires)

pub returns : goal.returns
returns c = rw (← c.self.view_is) (row_read _ _ _ _ c.self.invariant c.args.class c.of.result.now c.of.ensures)
