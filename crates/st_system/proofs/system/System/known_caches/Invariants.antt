use Rattle.std.proofs.Common.{All, take}
use Rattle.st_system.specs.SystemWorkers.{AreValidWhereKept, WorkerView}
use Rattle.st_system.proofs.system.System.known_caches.Given as goal

abbrev pub invariant-loop-worker : goal.invariant-loop-worker
invariant-loop-worker g l =
    All (λ (s : WorkerView g.row.G.Denot). AreValidWhereKept g.G.Guard.count g.G.Guard.floor s.caches) (take l.worker-index l.worker-items)
