use Rattle.st_classes.proofs.Accepted.{naming_same}
use Rattle.st_classes.proofs.version.Version.named_again.Goals as goal

pub returns : goal.returns
returns c = λ e d. rw c.in_ok-named.ensures (naming_same c.args.self.now e _ d (rw (← c.self.view_is) c.self.invariant.named))
