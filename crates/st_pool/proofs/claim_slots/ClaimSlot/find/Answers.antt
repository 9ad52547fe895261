use Rattle.st_pool.proofs.Holding.{takes_hold}
use Rattle.st_pool.proofs.claim_slots.ClaimSlot.find.Goals as goal

pub returns : goal.returns
returns g c = takes_hold c.args.pool.now c.work-work.new.self c.work-work.result c.work-work.ensures.takes c.work-work.ensures.books
