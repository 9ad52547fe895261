use Rattle.std.proofs.Common.{sym}
use Rattle.st_guard.proofs.LaterEdits.{nothing_valid}
use Rattle.st_guard.proofs.invalidation.empty.Goals as goal

pub returns-clause-at : goal.returns-clause-at
returns-clause-at g c = λ list l. record { counted = sym l; valid = nothing_valid _ _ _ _ list (c.reset.ensures.covers list l) c.clear.ensures c.clear-2.ensures }
