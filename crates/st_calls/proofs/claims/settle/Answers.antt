use Rattle.st_calls.proofs.Growing.{settles_grow, settles_later}
use Rattle.st_calls.proofs.claims.settle.Goals as goal

pub returns-clause-later : goal.returns-clause-later
returns-clause-later g c = settles_later c.args.image.now c.commit_or_release-answer.new.image c.args.claim c.commit_or_release-answer.result c.known.ensures c.known-3.ensures c.commit_or_release-answer.ensures

pub returns-clause-grows : goal.returns-clause-grows
returns-clause-grows g c = settles_grow c.args.image.now c.commit_or_release-answer.new.image c.args.claim c.commit_or_release-answer.result c.known.ensures c.known-3.ensures c.commit_or_release-answer.ensures
