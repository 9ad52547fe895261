use Rattle.st_calls.proofs.Doing.{does_grow, does_later}
use Rattle.st_calls.proofs.applying.apply.Goals as goal

pub returns-clause-later : goal.returns-clause-later
returns-clause-later g c = does_later c.args.image.now c.perform-answer.new.image c.args.call c.perform-answer.result c.known.ensures c.known-2.ensures c.perform-answer.ensures

pub returns-clause-grows : goal.returns-clause-grows
returns-clause-grows g c = does_grow c.args.image.now c.perform-answer.new.image c.args.call c.perform-answer.result c.known.ensures c.known-2.ensures c.perform-answer.ensures
