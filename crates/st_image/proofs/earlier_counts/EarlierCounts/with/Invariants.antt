use Rattle.std.proofs.Common.{◌≡◌, ℕ, ◌+◌, ◌<◌, length, get_or}
use Rattle.st_image.proofs.earlier_counts.EarlierCounts.with.Given as goal

abbrev pub invariant-loop-actor : goal.invariant-loop-actor
invariant-loop-actor l = (length l.sums.items ≡ l.actor) × ((a : ℕ) → a < l.actor → get_or l.sums.items a 0 ≡ get_or l.self.changes a 0 + get_or l.changes a 0)
