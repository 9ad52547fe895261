use Rattle.st_classes.proofs.Accepted.{remove_install}
use Rattle.st_classes.proofs.version.Version.rows_with.Goals as goal

pub rows_with_method-requires-in-Remove : goal.rows_with_method-requires-in-Remove
rows_with_method-requires-in-Remove c = remove_install c.args.self.now c.in-Remove.class c.in-Remove.selector (rw c.in-Remove.is at c.requires)
