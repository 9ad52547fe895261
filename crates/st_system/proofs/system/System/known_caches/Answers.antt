use Rattle.std.proofs.Common.{rules, ◌≡◌, ◌≤◌, ◌∙◌, All, List, ap, length, subst}
use Rattle.std.proofs.lemmas.List.{take_all}
use Rattle.st_system.specs.SystemWorkers.{AreValidWhereKept, SystemView, WorkerView}
use Rattle.st_system.proofs.system.System.known_caches.Goals as goal

pub returns : goal.returns
returns g c =
    let workers = c.deref-worker-items.result.now in
    let i = c.loop-worker.worker-index in
    let end : length workers ≤ i = search rules in
    let whole : workers ≡ c.self.inside.workers.items = search rules in
    subst (λ (l : List (WorkerView g.row.G.Denot)). All (λ (s : WorkerView g.row.G.Denot). AreValidWhereKept g.G.Guard.count g.G.Guard.floor s.caches) l) (take_all i workers end ∙ whole ∙ ap (λ (s : SystemView g.row.G.Denot). s.workers) c.self.view_is) c.loop-worker.invariant
