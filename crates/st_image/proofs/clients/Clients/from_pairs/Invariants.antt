use Rattle.std.proofs.Common.{◌≡◌, ◌≤◌, ℕ, drop, length}
use Rattle.st_image.specs.Worlds.{client_last}
use Rattle.st_image.specs.Clients.{number_of}
use Rattle.st_image.proofs.clients.Clients.from_pairs.Given as goal

abbrev pub invariant-pairs : goal.invariant-pairs
invariant-pairs l = (l.left ≤ length l.pairs) × ((s : ℕ) → client_last s (drop l.left l.pairs) ≡ number_of l.clients s)

abbrev pub decreases-pairs : goal.decreases-pairs
decreases-pairs l = l.left
