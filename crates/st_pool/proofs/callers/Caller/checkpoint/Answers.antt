use Rattle.st_pool.proofs.Calling.{checkpoints_once}
use Rattle.st_pool.proofs.callers.Caller.checkpoint.Goals as goal

pub returns : goal.returns
returns g c = rw c.counts.ensures (checkpoints_once g.K.Naming.start g.K.Naming.first c.args.self.now c.call-answer.new.self c.call-answer.result c.call-answer.ensures)
