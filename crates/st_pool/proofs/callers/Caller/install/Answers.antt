use Rattle.st_pool.proofs.Calling.{installs_once}
use Rattle.st_pool.proofs.callers.Caller.install.Goals as goal

pub returns-clause-edits : goal.returns-clause-edits
returns-clause-edits g c = rw c.version.ensures (installs_once g.K.Naming.start g.K.Naming.first c.args.self.now c.call-answer.new.self c.args.class c.args.source c.call-answer.result c.call-answer.ensures).0

pub returns-clause-answers : goal.returns-clause-answers
returns-clause-answers g c = rw c.version.ensures (installs_once g.K.Naming.start g.K.Naming.first c.args.self.now c.call-answer.new.self c.args.class c.args.source c.call-answer.result c.call-answer.ensures).1
