use Rattle.std.proofs.Common.{sym}
use Rattle.st_classes.proofs.Walking.{above_is_class}
use Rattle.st_classes.proofs.version.Version.inherited.Goals as goal

pub slots-requires : goal.slots-requires
slots-requires c = above_is_class c.args.self.now c.args.class c.in-Some.up c.kept.ensures (sym c.in-Some.ensures)
