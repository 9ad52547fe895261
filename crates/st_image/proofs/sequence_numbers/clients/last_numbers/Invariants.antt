use Rattle.std.proofs.Common.{◌≡◌, ◌≤◌, ℕ, drop, length}
use Rattle.st_image.specs.Clients.{number_of}
use Rattle.st_image.specs.Worlds.{client_last}
use Rattle.st_image.proofs.sequence_numbers.clients.last_numbers.Given as goal

abbrev pub invariant-loop-left : goal.invariant-loop-left
invariant-loop-left l = (l.left ≤ length l.clients) × ((s : ℕ) → number_of l.lasts s ≡ client_last s (drop l.left l.clients))

abbrev pub decreases-loop-left : goal.decreases-loop-left
decreases-loop-left l = l.left
