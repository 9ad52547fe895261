use Rattle.st_wire.proofs.Tidying.{push_tidy}
use Rattle.st_wire.proofs.told.Items.push.Goals as goal

pub invariant_of-self-2 : goal.invariant_of-self-2
invariant_of-self-2 c = rw c.in_ok-push.ensures.items (push_tidy _ _ c.told.invariant c.self.invariant)
