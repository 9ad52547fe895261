use Rattle.st_calls.proofs.Doing.{texts_grow, texts_later}
use Rattle.st_calls.proofs.applying.intern.Goals as goal

pub returns-clause-later : goal.returns-clause-later
returns-clause-later g c = texts_later c.args.image.now c.intern_in-answer.new.image c.args.text.now c.intern_in-answer.result c.intern_in-answer.ensures

pub returns-clause-grows : goal.returns-clause-grows
returns-clause-grows g c = texts_grow c.args.image.now c.intern_in-answer.new.image c.args.text.now c.intern_in-answer.result c.known.ensures c.known-2.ensures c.intern_in-answer.ensures
