use Rattle.std.proofs.Common.{sym}
use Rattle.std.specs.Arc.{arc_value}
use Rattle.st_classes.proofs.Deepening.{depth_read}
use Rattle.st_classes.proofs.version.Version.depth.Goals as goal

pub returns : goal.returns
returns c = sym (depth_read c.args.self.now (arc_value c.self.inside.depths) c.args.class c.of.result (rw (← c.self.view_is) c.self.invariant.deep) (rw (← c.deref.ensures) c.of.ensures))
