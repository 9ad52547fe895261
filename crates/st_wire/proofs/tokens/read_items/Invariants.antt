use Rattle.std.proofs.Common.{ℕ, ◌≤◌, length}
use Rattle.st_wire.specs.Fields.{argument}
use Rattle.st_wire.proofs.Fronts.{ItemsGoOn}
use Rattle.st_wire.proofs.tokens.read_items.Given as goal

abbrev pub invariant-items : goal.invariant-items
invariant-items l = (n : ℕ) × (length l.reader ≤ n) × ItemsGoOn argument 125 l.fn.reader l.found.items n l.reader × (length l.reader ≤ length l.fn.reader)

abbrev pub decreases-items : goal.decreases-items
decreases-items l = length l.reader
