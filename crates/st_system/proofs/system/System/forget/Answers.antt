use Rattle.std.proofs.Common.{rules, refl, ap, subst, sym, Option, ◌≡◌, Ok, Some, arith, ◌≤◌, Err}
use Rattle.std.specs.Prelude.{length, slice_get, slice_set}
use Rattle.std.proofs.lemmas.Option.{slice_get_read, slice_get_past}
use Rattle.std.specs.Option.{IfSome, option_map}
use Rattle.st_system.specs.declared.events.Answer.TheVariants.{Done}
use Rattle.st_image.proofs.Places.{at_all, get_set_same}
use Rattle.st_system.specs.ClaimEvents.{AtWorker, KeepsClaim}
use Rattle.st_system.specs.Schedules.{bare, schedule}
use Rattle.st_system.specs.SystemWorkers.{FitsWorker, HaveNothing, SystemView, WorkerView}
use Rattle.st_system.proofs.SystemWorkers.{all_set, goes_on_same}
use Rattle.st_system.specs.WorkerEvents.{TellsWork}
use Rattle.st_system.proofs.WorkersActing.{system_worker_acts, worker_acts, no_system_worker, no_worker}
use Rattle.st_system.proofs.OtherWorkers.{leaves_others, leaves_all}
use Rattle.st_system.specs.declared.events.Event.TheVariants.{Forget}
use Rattle.st_system.specs.Others.{LeavesOthers}
use Rattle.st_classes.specs.declared.refusals.Refusal.TheVariants.{BadArguments}
use Rattle.st_system.proofs.system.System.forget.Goals as goal

pub invariant_of-self : goal.invariant_of-self
invariant_of-self g c =
    let there : slice_get c.self.inside.workers.items c.args.worker ≡ Some c.index_mut-system_worker.result.now = slice_get_read c.self.inside.workers.items (length c.self.inside.workers.items) c.args.worker c.index_mut-system_worker.result.now refl (search rules) c.index_mut-system_worker.ensures.value in
    let i = c.self.inside.image in
    all_set i i c.self.inside.workers.items c.args.worker c.forget.new.self (goes_on_same i) c.self.invariant (c.forget.ensures.fits i (at_all (FitsWorker i) c.self.inside.workers.items c.args.worker c.index_mut-system_worker.result.now c.self.invariant there))

pub returns-clause-acts : goal.returns-clause-acts
returns-clause-acts g c =
    let there : slice_get c.self.inside.workers.items c.args.worker ≡ Some c.index_mut-system_worker.result.now = slice_get_read c.self.inside.workers.items (length c.self.inside.workers.items) c.args.worker c.index_mut-system_worker.result.now refl (search rules) c.index_mut-system_worker.ensures.value in
    let S : SystemView g.row.G.Denot = record { image = c.self.inside.image; workers = c.self.inside.workers.items } in
    let T : SystemView g.row.G.Denot = record { image = c.self.inside.image; workers = slice_set c.self.inside.workers.items c.args.worker c.forget.new.self } in
    let acts = worker_acts KeepsClaim S T c.args.worker c.index_mut-system_worker.result.now c.forget.new.self (Ok Done) there refl (refl, refl, ap (option_map bare) c.forget.ensures.claim) in
    subst (λ (X : SystemView g.row.G.Denot). AtWorker KeepsClaim (schedule X) c.args.worker (Ok Done) (schedule T) (slice_get (schedule X).claims c.args.worker)) c.self.view_is acts

pub returns-clause-forgotten : goal.returns-clause-forgotten
returns-clause-forgotten g c =
    let workers = c.self.inside.workers.items in
    let there : slice_get workers c.args.worker ≡ Some c.index_mut-system_worker.result.now = slice_get_read workers (length workers) c.args.worker c.index_mut-system_worker.result.now refl (search rules) c.index_mut-system_worker.ensures.value in
    subst (λ (o : Option (WorkerView g.row.G.Denot)). IfSome o (λ s. HaveNothing s.caches))
    (sym (get_set_same workers c.args.worker c.index_mut-system_worker.result.now c.forget.new.self there)) c.forget.ensures.emptied

pub returns-clause-others : goal.returns-clause-others
returns-clause-others g c =
    let workers = c.self.inside.workers.items in
    let there : slice_get workers c.args.worker ≡ Some c.index_mut-system_worker.result.now = slice_get_read workers (length workers) c.args.worker c.index_mut-system_worker.result.now refl (search rules) c.index_mut-system_worker.ensures.value in
    let others = leaves_others (Forget c.args.worker) c.args.worker workers c.index_mut-system_worker.result.now c.forget.new.self refl there (λ apart. cc) in
    subst (λ (X : SystemView g.row.G.Denot). LeavesOthers (Forget c.args.worker) X.workers (slice_set workers c.args.worker c.forget.new.self)) c.self.view_is others

pub returns-clause-work : goal.returns-clause-work
returns-clause-work g c =
    let workers = c.self.inside.workers.items in
    let there : slice_get workers c.args.worker ≡ Some c.index_mut-system_worker.result.now = slice_get_read workers (length workers) c.args.worker c.index_mut-system_worker.result.now refl (search rules) c.index_mut-system_worker.ensures.value in
    let S : SystemView g.row.G.Denot = record { image = c.self.inside.image; workers = workers } in
    let T : SystemView g.row.G.Denot = record { image = c.self.inside.image; workers = slice_set workers c.args.worker c.forget.new.self } in
    let work = system_worker_acts (λ i s answer j t. t.claim ≡ s.claim) S T c.args.worker c.index_mut-system_worker.result.now c.forget.new.self (Ok Done) there refl c.forget.ensures.claim in
    subst (λ (X : SystemView g.row.G.Denot). TellsWork g.G.Guard.count g.G.Guard.floor g.G.Guard.raises X (Forget c.args.worker) (Ok Done) T) c.self.view_is work

pub returns-then-place-len-clause-acts : goal.returns-then-place-len-clause-acts
returns-then-place-len-clause-acts g c =
    let past : length c.self.inside.workers.items ≤ c.args.worker = omega arith in
    let none = subst (λ (X : SystemView g.row.G.Denot). length X.workers ≤ c.args.worker) c.self.view_is past in
    no_worker KeepsClaim c.args.self.now c.args.self.now c.args.worker (Err BadArguments) none refl refl

pub returns-then-place-len-clause-others : goal.returns-then-place-len-clause-others
returns-then-place-len-clause-others g c = leaves_all (Forget c.args.worker) c.args.self.now.workers c.args.self.now.workers refl

pub returns-then-place-len-clause-work : goal.returns-then-place-len-clause-work
returns-then-place-len-clause-work g c =
    let past : length c.self.inside.workers.items ≤ c.args.worker = omega arith in
    let none = subst (λ (X : SystemView g.row.G.Denot). length X.workers ≤ c.args.worker) c.self.view_is past in
    no_system_worker (λ i s answer j t. t.claim ≡ s.claim) c.args.self.now c.args.self.now c.args.worker (Err BadArguments) none refl

pub returns-then-place-len-clause-forgotten : goal.returns-then-place-len-clause-forgotten
returns-then-place-len-clause-forgotten g c =
    let past : length c.self.inside.workers.items ≤ c.args.worker = omega arith in
    let none = subst (λ (X : SystemView g.row.G.Denot). length X.workers ≤ c.args.worker) c.self.view_is past in
    subst (λ (o : Option (WorkerView g.row.G.Denot)). IfSome o (λ s. HaveNothing s.caches)) (sym (slice_get_past c.args.self.now.workers c.args.worker none)) tt
