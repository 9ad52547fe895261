use Rattle.std.proofs.Common.{ℕ, ◌≤◌, length}
use Rattle.st_wire.proofs.Fronts.{ItemsGoOn}
use Rattle.st_file.proofs.streaming.lists.items.Given as goal

abbrev pub invariant-items : goal.invariant-items
invariant-items g l = (n : ℕ) × (length l.reader ≤ n) × ItemsGoOn (g.B.Makes.form l.by) 125 l.fn.reader l.found.items n l.reader × (length l.reader ≤ length l.fn.reader)

abbrev pub decreases-items : goal.decreases-items
decreases-items g l = length l.reader
