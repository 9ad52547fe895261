use Rattle.std.proofs.Common.{length}
use Rattle.st_image.proofs.RenewedEach.{AreLeft}
use Rattle.st_image.proofs.actors.renewal.begin_each.Given as goal

abbrev pub invariant-left : goal.invariant-left
invariant-left g l = AreLeft l.fn.actors.items l.results.items l.actors.items

abbrev pub decreases-left : goal.decreases-left
decreases-left g l = length l.results.items
