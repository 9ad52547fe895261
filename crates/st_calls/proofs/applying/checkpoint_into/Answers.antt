use Rattle.st_calls.specs.declared.calls.Call.TheVariants as call
use Rattle.st_calls.proofs.Doing.{does_grow, does_later}
use Rattle.st_calls.proofs.applying.checkpoint_into.Goals as goal

pub returns-clause-later : goal.returns-clause-later
returns-clause-later g c = does_later c.args.image.now c.emptied_into-answer.new.image call.Checkpoint c.emptied_into-answer.result c.known.ensures c.known-2.ensures c.emptied_into-answer.ensures.does

pub returns-clause-grows : goal.returns-clause-grows
returns-clause-grows g c = does_grow c.args.image.now c.emptied_into-answer.new.image call.Checkpoint c.emptied_into-answer.result c.known.ensures c.known-2.ensures c.emptied_into-answer.ensures.does
