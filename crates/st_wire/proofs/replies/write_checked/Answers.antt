use Rattle.st_wire.proofs.Writing.{added, adds}
use Rattle.st_wire.proofs.replies.write_checked.Goals as goal

pub returns : goal.returns
returns c =
    let two = added (added c.in_ok-begin_ok.ensures c.in_ok-number_at.ensures) c.in_ok-number_at-2.ensures in
    adds _ _ _ (added two c.in_ok-number_at-3.ensures) c.end_ok.ensures
