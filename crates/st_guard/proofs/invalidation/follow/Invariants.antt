use Rattle.std.proofs.Common.{◌≡◌, ◌≤◌, ◌-◌, length, take}
use Rattle.st_classes.specs.declared.values.Selector.{Selector}
use Rattle.st_guard.specs.Moves.{IsAt, floor_noted}
use Rattle.st_guard.proofs.invalidation.follow.Given as goal

abbrev pub invariant-later : goal.invariant-later
invariant-later g l =
    (l.caches.edits ≤ length l.version)
    × IsAt (g.G.Guard.count l.caches.guard) (g.G.Guard.floor l.caches.guard) l.caches.sites l.caches.recent l.caches.edits (take l.caches.edits l.version)
    × (l.fn.caches.edits ≤ l.caches.edits)
    × ((s : Selector) → g.G.Guard.floor l.caches.guard s ≡ floor_noted g.G.Guard.raises l.version l.fn.caches.edits s (g.G.Guard.floor l.fn.caches.guard s) (l.caches.edits - l.fn.caches.edits))
    × (l.caches.sites ≡ l.fn.caches.sites)
    × (l.caches.recent ≡ l.fn.caches.recent)

abbrev pub decreases-later : goal.decreases-later
decreases-later g l = length l.version - l.caches.edits
