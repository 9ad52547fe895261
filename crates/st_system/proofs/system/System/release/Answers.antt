use Rattle.std.proofs.Common.{rules, refl, subst, ◌≡◌, None, Some, arith, ◌≤◌, Err}
use Rattle.std.specs.Prelude.{length, slice_get, slice_set}
use Rattle.std.proofs.lemmas.Option.{slice_get_read}
use Rattle.st_system.specs.ClaimEvents.{AtWorker, OfClaim, ReleasesClaim}
use Rattle.st_system.specs.Schedules.{schedule}
use Rattle.st_system.specs.SystemWorkers.{SystemView, FitsWorker}
use Rattle.st_system.proofs.SystemWorkers.{all_set}
use Rattle.st_system.specs.WorkerEvents.{TellsWork}
use Rattle.st_system.proofs.WorkersActing.{system_worker_acts, worker_acts, no_system_worker, no_worker}
use Rattle.st_system.proofs.OtherWorkers.{leaves_others, leaves_all}
use Rattle.st_system.specs.declared.events.Event.TheVariants.{Release}
use Rattle.st_system.specs.Others.{LeavesOthers}
use Rattle.st_classes.specs.declared.refusals.Refusal.TheVariants.{BadArguments}
use Rattle.st_image.proofs.Places.{at_all}
use Rattle.st_system.proofs.system.System.release.Goals as goal

pub invariant_of-self : goal.invariant_of-self
invariant_of-self g c =
    all_set c.self.inside.image c.release.new.image c.self.inside.workers.items c.args.worker c.release.new.self c.release.ensures.later c.self.invariant c.release.ensures.fits

pub returns-clause-acts : goal.returns-clause-acts
returns-clause-acts g c =
    let there : slice_get c.self.inside.workers.items c.args.worker ≡ Some c.index_mut-system_worker.result.now = slice_get_read c.self.inside.workers.items (length c.self.inside.workers.items) c.args.worker c.index_mut-system_worker.result.now refl (search rules) c.index_mut-system_worker.ensures.value in
    let S : SystemView g.row.G.Denot = record { image = c.self.inside.image; workers = c.self.inside.workers.items } in
    let T : SystemView g.row.G.Denot = record { image = c.release.new.image; workers = slice_set c.self.inside.workers.items c.args.worker c.release.new.self } in
    let acts = worker_acts (OfClaim ReleasesClaim) S T c.args.worker c.index_mut-system_worker.result.now c.release.new.self c.release.result there refl c.release.ensures.acts in
    subst (λ (X : SystemView g.row.G.Denot). AtWorker (OfClaim ReleasesClaim) (schedule X) c.args.worker c.release.result (schedule T) (slice_get (schedule X).claims c.args.worker)) c.self.view_is acts

pub returns-clause-others : goal.returns-clause-others
returns-clause-others g c =
    let workers = c.self.inside.workers.items in
    let there : slice_get workers c.args.worker ≡ Some c.index_mut-system_worker.result.now = slice_get_read workers (length workers) c.args.worker c.index_mut-system_worker.result.now refl (search rules) c.index_mut-system_worker.ensures.value in
    let others = leaves_others (Release c.args.worker) c.args.worker workers c.index_mut-system_worker.result.now c.release.new.self refl there (λ apart. c.release.ensures.caches) in
    subst (λ (X : SystemView g.row.G.Denot). LeavesOthers (Release c.args.worker) X.workers (slice_set workers c.args.worker c.release.new.self)) c.self.view_is others

pub returns-clause-work : goal.returns-clause-work
returns-clause-work g c =
    let workers = c.self.inside.workers.items in
    let there : slice_get workers c.args.worker ≡ Some c.index_mut-system_worker.result.now = slice_get_read workers (length workers) c.args.worker c.index_mut-system_worker.result.now refl (search rules) c.index_mut-system_worker.ensures.value in
    let S : SystemView g.row.G.Denot = record { image = c.self.inside.image; workers = workers } in
    let T : SystemView g.row.G.Denot = record { image = c.release.new.image; workers = slice_set workers c.args.worker c.release.new.self } in
    let work = system_worker_acts (λ i s answer j t. t ≡ record s { claim = None }) S T c.args.worker c.index_mut-system_worker.result.now c.release.new.self c.release.result there refl c.release.ensures.whole in
    subst (λ (X : SystemView g.row.G.Denot). TellsWork g.G.Guard.count g.G.Guard.floor g.G.Guard.raises X (Release c.args.worker) c.release.result T) c.self.view_is work

pub returns-then-place-len-clause-acts : goal.returns-then-place-len-clause-acts
returns-then-place-len-clause-acts g c =
    let past : length c.self.inside.workers.items ≤ c.args.worker = omega arith in
    let none = subst (λ (X : SystemView g.row.G.Denot). length X.workers ≤ c.args.worker) c.self.view_is past in
    no_worker (OfClaim ReleasesClaim) c.args.self.now c.args.self.now c.args.worker (Err BadArguments) none refl refl

pub returns-then-place-len-clause-others : goal.returns-then-place-len-clause-others
returns-then-place-len-clause-others g c = leaves_all (Release c.args.worker) c.args.self.now.workers c.args.self.now.workers refl

pub returns-then-place-len-clause-work : goal.returns-then-place-len-clause-work
returns-then-place-len-clause-work g c =
    let past : length c.self.inside.workers.items ≤ c.args.worker = omega arith in
    let none = subst (λ (X : SystemView g.row.G.Denot). length X.workers ≤ c.args.worker) c.self.view_is past in
    no_system_worker (λ i s answer j t. t ≡ record s { claim = None }) c.args.self.now c.args.self.now c.args.worker (Err BadArguments) none refl

pub release-requires : goal.release-requires
release-requires g c =
    let i = c.self.inside in
    let there : slice_get i.workers.items c.args.worker ≡ Some c.index_mut-system_worker.result.now = slice_get_read i.workers.items (length i.workers.items) c.args.worker c.index_mut-system_worker.result.now refl (omega arith) c.index_mut-system_worker.ensures.value in
    at_all (FitsWorker i.image) i.workers.items c.args.worker c.index_mut-system_worker.result.now c.self.invariant there
