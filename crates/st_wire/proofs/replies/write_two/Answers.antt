use Rattle.st_wire.proofs.Writing.{added, adds}
use Rattle.st_wire.proofs.replies.write_two.Goals as goal

pub returns : goal.returns
returns c = adds _ _ _ (added (added c.in_ok-begin_ok.ensures c.in_ok-number_at.ensures) c.in_ok-number_at-2.ensures) c.end_ok.ensures
