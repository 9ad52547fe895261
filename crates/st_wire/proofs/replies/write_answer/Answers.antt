use Rattle.std.proofs.Common.{append_assoc}
use Rattle.st_wire.proofs.Writing.{added, adds, one}
use Rattle.st_wire.proofs.replies.write_answer.Goals as goal

pub returns : goal.returns
returns c = simp append_assoc (adds _ _ _ (added (added c.in_ok-begin_ok.ensures (one c.in_ok-key.ensures)) c.in_ok-write.ensures) c.end_ok.ensures)
