use Rattle.st_pool.proofs.Calling.{closes_once}
use Rattle.st_pool.proofs.callers.Caller.close.Goals as goal

pub returns-clause-same : goal.returns-clause-same
returns-clause-same g c = (closes_once g.K.Naming.start g.K.Naming.first c.args.self.now c.call-answer.new.self c.args.actor c.call-answer.result c.call-answer.ensures).0

pub returns-clause-answers : goal.returns-clause-answers
returns-clause-answers g c = rw c.closed.ensures (closes_once g.K.Naming.start g.K.Naming.first c.args.self.now c.call-answer.new.self c.args.actor c.call-answer.result c.call-answer.ensures).1
