use Rattle.st_pool.proofs.Weights.{kept_same}
use Rattle.st_calls.proofs.GoingThen.{goes_then}
use Rattle.st_pool.proofs.Knowing.{prefix_later}
use Rattle.st_pool.proofs.Holding.{run_interned}
use Rattle.st_pool.proofs.pool_state.PoolState.intern.Goals as goal

pub invariant_of-self : goal.invariant_of-self
invariant_of-self g c = (
  kept_same g.K.Naming.start c.self.inside.image c.intern.new.image c.self.inside.books c.self.invariant.0 c.intern.ensures.grows,
  prefix_later c.self.inside.prefix c.self.inside.image c.intern.new.image c.intern.ensures.later c.self.invariant.1,
  goes_then g.K.Naming.first c.self.inside.image c.intern.new.image c.self.invariant.2 c.intern.ensures.later,
  run_interned g.K.Naming.first c.self.inside.image c.intern.new.image c.self.inside.books c.args.text.now c.intern.result c.self.invariant.3 c.intern.ensures.does,
)
