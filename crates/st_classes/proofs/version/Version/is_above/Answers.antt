use Rattle.std.proofs.Common.{sym, ◌∙◌}
use Rattle.st_classes.proofs.Walking.{above_is_class, above_is_shorter, among_above, among_here, among_top}
use Rattle.st_classes.proofs.version.Version.is_above.Goals as goal

pub up-smaller : goal.up-smaller
up-smaller c = above_is_shorter c.args.self.now c.up.at c.in-Some.above c.kept.ensures (sym c.in-Some.ensures)

pub up-preserved : goal.up-preserved
up-preserved c = (above_is_class c.args.self.now c.up.at c.in-Some.above c.kept.ensures (sym c.in-Some.ensures), sym (among_above c.args.self.now c.args.class c.up.at c.in-Some.above c.kept.ensures (sym c.if-eq.ensures) (sym c.in-Some.ensures)) ∙ c.up.invariant.1)

pub returns-then-eq : goal.returns-then-eq
returns-then-eq c = sym (among_here c.args.self.now c.args.class c.up.at (sym c.if-eq.ensures)) ∙ c.up.invariant.1

pub returns-in-None : goal.returns-in-None
returns-in-None c = sym (among_top c.args.self.now c.args.class c.up.at (sym c.if-eq.ensures) (sym c.in-None.ensures)) ∙ c.up.invariant.1
