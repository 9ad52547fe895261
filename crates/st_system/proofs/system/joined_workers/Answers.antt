use Rattle.std.proofs.Common.{rules, arith, refl, ◌≡◌, ◌++◌, [], ◌∷◌, List, subst, sym, ◌∙◌}
use Rattle.std.specs.List.{AllZip}
use Rattle.std.proofs.lemmas.Grind.{common_steps}
use Rattle.std.proofs.lemmas.Iterator.Adapters.{YieldsList-from_vec}
use Rattle.std.proofs.lemmas.Iterator.Consumers.{YieldsList-end}
use Rattle.std.proofs.lemmas.List.{map-id}
use Rattle.st_guard.specs.Moves.{CachesView}
use Rattle.st_system.specs.SystemWorkers.{JoinsSystem, WorkerView}
use Rattle.st_system.proofs.SystemWorkers.{zip_push}
use Rattle.st_system.proofs.system.joined_workers.Goals as goal

pub loop-worker-preserved : goal.loop-worker-preserved
loop-worker-preserved g c =
    let edits = c.args.version.now in
    let one : c.push.new.self.items ≡ c.loop-worker.joined.items ++ c.new.result ∷ [] = first_of (search rules, grind (arith, common_steps)) in
    let joined : AllZip (JoinsSystem {G = g.row.G.Denot} edits) (c.loop-worker.yielded ++ c.in-Some.worker ∷ []) (c.loop-worker.joined.items ++ c.new.result ∷ []) = zip_push (JoinsSystem {G = g.row.G.Denot} edits) c.loop-worker.yielded c.loop-worker.joined.items c.in-Some.worker c.new.result (c.loop-worker.invariant c.loop-worker.yielded refl) c.new.ensures in
    λ workers same. subst (λ (ws : List (CachesView g.row.G.Denot)). AllZip (JoinsSystem {G = g.row.G.Denot} edits) ws c.push.new.self.items) same
    (subst (λ (ss : List (WorkerView g.row.G.Denot)). AllZip (JoinsSystem {G = g.row.G.Denot} edits) (c.loop-worker.yielded ++ c.in-Some.worker ∷ []) ss) (sym one) joined)

pub loop-worker-init : goal.loop-worker-init
loop-worker-init g c = λ workers same.
    let edits = c.args.version.now in
    let none : AllZip (JoinsSystem {G = g.row.G.Denot} edits) [] [] = tt in
    subst (λ (ws : List (CachesView g.row.G.Denot)). AllZip (JoinsSystem {G = g.row.G.Denot} edits) ws c.in_ok-joined.joined.items) same
    (subst (λ (ss : List (WorkerView g.row.G.Denot)). AllZip (JoinsSystem {G = g.row.G.Denot} edits) [] ss) (sym c.in_ok-joined.ensures.items) none)

pub returns : goal.returns
returns g c =
    let steps = YieldsList-from_vec c.args.workers.items c.into_iter-worker-iterator.ensures.into_iter_gives.0 (omega (arith, c.args.workers.ok.0, c.into_iter-worker-iterator.ensures.into_iter_gives.1)) in
    let end = YieldsList-end steps c.loop-worker.yielded c.loop-worker.worker-iterator c.loop-worker.yielded_by c.next.result c.next.new.self c.in-None.is c.next.ensures.steps in
    c.loop-worker.invariant c.args.workers.items (sym (map-id c.loop-worker.yielded) ∙ end.0)
