use Rattle.st_pool.proofs.Calling.{interns_once}
use Rattle.st_pool.proofs.callers.Caller.intern.Goals as goal

pub returns-clause-same : goal.returns-clause-same
returns-clause-same g c = (interns_once g.K.Naming.start g.K.Naming.first c.args.self.now c.hold.new.self c.args.text.now c.hold.result c.hold.ensures).0

pub returns-clause-answers : goal.returns-clause-answers
returns-clause-answers g c = (interns_once g.K.Naming.start g.K.Naming.first c.args.self.now c.hold.new.self c.args.text.now c.hold.result c.hold.ensures).1
