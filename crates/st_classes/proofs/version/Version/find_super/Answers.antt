use Rattle.std.proofs.Common.{sym}
use Rattle.st_classes.proofs.Walking.{above_is_class}
use Rattle.st_classes.proofs.version.Version.find_super.Goals as goal

pub walk-found-requires : goal.walk-found-requires
walk-found-requires c = above_is_class c.args.self.now c.args.holder c.in-Some.up c.kept.ensures (sym c.in-Some.ensures)
