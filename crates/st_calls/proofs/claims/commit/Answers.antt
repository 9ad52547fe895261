use Rattle.st_image.proofs.CallsLater.{commits_back, commits_later}
use Rattle.st_calls.proofs.claims.commit.Goals as goal

pub returns-clause-back : goal.returns-clause-back
returns-clause-back g c = commits_back c.args.image.now c.commit_recycling-answer.new.self c.args.claim c.commit_recycling-answer.result c.commit_recycling-answer.ensures

pub returns-clause-later : goal.returns-clause-later
returns-clause-later g c = commits_later c.args.image.now c.commit_recycling-answer.new.self c.args.claim c.commit_recycling-answer.result c.known.ensures c.known-2.ensures c.commit_recycling-answer.ensures
