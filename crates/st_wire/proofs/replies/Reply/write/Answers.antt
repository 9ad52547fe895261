use Rattle.st_wire.proofs.replies.Reply.write.Goals as goal

pub returns-in-Version : goal.returns-in-Version
returns-in-Version c = rw c.in-Version.is (simp c.into.ensures at c.write_number.ensures)
