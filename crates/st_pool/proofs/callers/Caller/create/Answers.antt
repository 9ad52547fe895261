use Rattle.st_pool.proofs.Calling.{creates_once}
use Rattle.st_pool.proofs.callers.Caller.create.Goals as goal

pub returns-clause-same : goal.returns-clause-same
returns-clause-same g c = (creates_once g.K.Naming.start g.K.Naming.first c.args.self.now c.call-answer.new.self c.args.class c.call-answer.result c.call-answer.ensures).0

pub returns-clause-answers : goal.returns-clause-answers
returns-clause-answers g c = rw c.created.ensures (creates_once g.K.Naming.start g.K.Naming.first c.args.self.now c.call-answer.new.self c.args.class c.call-answer.result c.call-answer.ensures).1
