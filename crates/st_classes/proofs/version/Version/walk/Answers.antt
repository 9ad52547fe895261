use Rattle.std.proofs.Common.{◌∙◌, sym}
use Rattle.st_classes.proofs.Walking.{walk_above, above_is_class, above_is_shorter}
use Rattle.st_classes.proofs.version.Version.walk.Goals as goal

pub up-smaller : goal.up-smaller
up-smaller c = above_is_shorter c.args.self.now c.up.at c.in-Some-parent.up c.kept.ensures (sym c.in-Some-parent.ensures)

pub up-preserved : goal.up-preserved
up-preserved c = (above_is_class c.args.self.now c.up.at c.in-Some-parent.up c.kept.ensures (sym c.in-Some-parent.ensures), sym (walk_above c.args.self.now c.up.at c.in-Some-parent.up c.args.selector c.kept.ensures (sym c.in_default.ensures) (sym c.in-Some-parent.ensures)) ∙ c.up.invariant.1)
