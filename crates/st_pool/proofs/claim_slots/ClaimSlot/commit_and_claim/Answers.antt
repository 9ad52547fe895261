use Rattle.st_pool.proofs.Holding.{commit_and_claim_holds}
use Rattle.st_pool.proofs.claim_slots.ClaimSlot.commit_and_claim.Goals as goal

pub returns : goal.returns
returns g c = commit_and_claim_holds c.args.pool.now c.commit_and_claim-answer.new.self c.in_ok-pool_claim.pool_claim c.if-self.commit_and_claim c.commit_and_claim-answer.result.0 c.commit_and_claim-answer.result.1 c.commit_and_claim-answer.ensures.turns c.commit_and_claim-answer.ensures.books
