use Rattle.st_pool.proofs.Weights.{kept_same}
use Rattle.st_calls.proofs.GoingThen.{goes_then}
use Rattle.st_pool.proofs.Knowing.{prefix_ended, prefix_later}
use Rattle.std.proofs.Common.{Ok, Err, refl}
use Rattle.st_pool.specs.Holds.{handed}
use Rattle.st_pool.proofs.Holding.{run_then}
use Rattle.st_pool.proofs.pool_state.PoolState.check_out.Goals as goal

pub note-requires : goal.note-requires
note-requires g c = prefix_later c.self.inside.prefix c.self.inside.image c.check_out.new.image c.in-Ok.ensures.later c.self.invariant.1

pub invariant_of-self : goal.invariant_of-self
invariant_of-self g c = (
  kept_same g.K.Naming.start c.self.inside.image c.check_out.new.image c.self.inside.books c.self.invariant.0 c.in-Ok.ensures.grows,
  prefix_ended c.note.new.prefix c.check_out.new.image c.note.ensures,
  goes_then g.K.Naming.first c.self.inside.image c.check_out.new.image c.self.invariant.2 c.in-Ok.ensures.later,
  run_then g.K.Naming.first (record { image = c.self.inside.image; books = c.self.inside.books }) (record { image = c.check_out.new.image; books = c.self.inside.books }) (handed c.args.actor (Ok c.in-Ok.claim)) c.self.invariant.3 (c.in-Ok.ensures.takes, refl),
)

pub invariant_of-self-in-Err : goal.invariant_of-self-in-Err
invariant_of-self-in-Err g c = (
  kept_same g.K.Naming.start c.self.inside.image c.check_out.new.image c.self.inside.books c.self.invariant.0 c.in-Err.ensures.grows,
  prefix_later c.self.inside.prefix c.self.inside.image c.check_out.new.image c.in-Err.ensures.later c.self.invariant.1,
  goes_then g.K.Naming.first c.self.inside.image c.check_out.new.image c.self.invariant.2 c.in-Err.ensures.later,
  run_then g.K.Naming.first (record { image = c.self.inside.image; books = c.self.inside.books }) (record { image = c.check_out.new.image; books = c.self.inside.books }) (handed c.args.actor (Err c.in-Err.refusal)) c.self.invariant.3 (c.in-Err.ensures.takes, refl),
)
