use Rattle.st_pool.specs.Holds.{IsHold, of_worker}
use Rattle.st_pool.proofs.claim_slots.ClaimSlots.commit_and_claim.Given as goal

abbrev pub invariant-loop-claim_slot : goal.invariant-loop-claim_slot
invariant-loop-claim_slot g l = IsHold of_worker l.fn.pool l.pool
