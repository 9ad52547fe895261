use Rattle.st_calls.specs.Growth.{committed}
use Rattle.st_pool.proofs.Weights.{kept_ran}
use Rattle.st_calls.proofs.GoingThen.{goes_then}
use Rattle.st_pool.proofs.Knowing.{claim_known, prefix_later}
use Rattle.st_pool.specs.Holds.{settled}
use Rattle.st_pool.proofs.Holding.{run_then}
use Rattle.st_pool.proofs.pool_state.PoolState.commit.Goals as goal

pub settle-answer-requires : goal.settle-answer-requires
settle-answer-requires g c = λ yes. claim_known c.pool_claim.inside.seen c.self.inside.prefix c.pool_claim.inside.claim c.self.inside.image (c.precedes-is_known.ensures yes) c.pool_claim.invariant c.self.invariant.1

pub invariant_of-self : goal.invariant_of-self
invariant_of-self g c = (
  kept_ran g.K.Naming.start c.self.inside.image c.settle-answer.new.image c.self.inside.books c.run.new.self (committed c.settle-answer.result) c.self.invariant.0 c.settle-answer.ensures.grows c.run.ensures.books,
  prefix_later c.self.inside.prefix c.self.inside.image c.settle-answer.new.image c.settle-answer.ensures.later c.self.invariant.1,
  goes_then g.K.Naming.first c.self.inside.image c.settle-answer.new.image c.self.invariant.2 c.settle-answer.ensures.later,
  run_then g.K.Naming.first (record { image = c.self.inside.image; books = c.self.inside.books }) (record { image = c.settle-answer.new.image; books = c.run.new.self }) (settled c.pool_claim.inside.claim c.settle-answer.result) c.self.invariant.3 (c.settle-answer.ensures.settles, c.run.ensures.books),
)
