use Rattle.std.proofs.Common.{◌≡◌}
use Rattle.st_pool.proofs.claim_slots.ClaimSlots.take_more.Given as goal

abbrev pub invariant-loop-claim_slot : goal.invariant-loop-claim_slot
invariant-loop-claim_slot g l = l.pool ≡ l.fn.pool
