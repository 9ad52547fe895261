use Rattle.st_turn.proofs.ClaimBeginnings.{runs_began}
use Rattle.st_pool.proofs.Knowing.{claim_after, worker_known}
use Rattle.st_pool.proofs.pool_worker.PoolWorker.run.Goals as goal

pub run_with-stop-requires : goal.run_with-stop-requires
run_with-stop-requires g c = λ yes. worker_known c.self.inside.seen c.pool_claim.inside.seen c.self.inside.worker c.pool_claim.inside.claim (c.precedes-is_known.ensures yes) c.self.invariant c.pool_claim.invariant

pub invariant_of-pool_claim : goal.invariant_of-pool_claim
invariant_of-pool_claim g c =
    let runs = c.run_with-stop.ensures.runs in
    claim_after c.pool_claim.inside.seen c.pool_claim.inside.claim c.run_with-stop.new.claim (runs_began g.G.Guard.floor c.args.limit runs.0 c.pool_claim.inside.claim c.run_with-stop.result c.run_with-stop.new.worker c.run_with-stop.new.claim runs.2) c.pool_claim.invariant

pub returns-clause-runs : goal.returns-clause-runs
returns-clause-runs g c = rw (← c.self.view_is, ← c.pool_claim.view_is) c.run_with-stop.ensures.runs
