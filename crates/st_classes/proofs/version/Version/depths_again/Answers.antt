use Rattle.st_classes.proofs.Deepening.{depths_same}
use Rattle.st_classes.proofs.version.Version.depths_again.Goals as goal

pub returns : goal.returns
returns c = λ e h. rw c.in_ok-depths.ensures (depths_same c.args.self.now e _ h (rw (← c.self.view_is) c.self.invariant.deep))
