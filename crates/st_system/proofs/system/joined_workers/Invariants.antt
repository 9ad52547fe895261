use Rattle.std.proofs.Common.{◌≡◌, List}
use Rattle.std.specs.List.{AllZip}
use Rattle.st_guard.specs.Moves.{CachesView}
use Rattle.st_system.specs.SystemWorkers.{JoinsSystem}
use Rattle.st_system.proofs.system.joined_workers.Given as goal

abbrev pub invariant-loop-worker : goal.invariant-loop-worker
invariant-loop-worker g l =
    (workers : List (CachesView g.row.G.Denot)) → l.yielded ≡ workers → AllZip (JoinsSystem l.version) workers l.joined.items
