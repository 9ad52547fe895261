use Rattle.std.proofs.Common.{◌≡◌, ◌≤◌, take}
use Rattle.st_image.specs.Counts.{posts_of, weigh}
use Rattle.st_pool.proofs.settling.posts_in.Given as goal

abbrev pub invariant-loop-item : goal.invariant-loop-item
invariant-loop-item l = (l.posts ≡ weigh posts_of (take l.item-index l.history)) × (l.posts ≤ l.item-index)
