-- An event of a worker, seen in its place among the workers, is one of the schedule.
use Rattle.std.proofs.Common.{◌≡◌, ℕ, ◌≤◌, Option, Some, None, Result, Err, refl, ap, sym, ◌∙◌, subst, map, inr}
use Rattle.std.specs.Prelude.{length, slice_get, slice_set}
use Rattle.std.specs.Option.{option_map}
use Rattle.std.proofs.lemmas.Option.{slice_get-map, slice_get_past}
use Rattle.std.proofs.lemmas.List.{map-set}
use Rattle.st_classes.specs.declared.refusals.Refusal.{Refusal}
use Rattle.st_classes.specs.declared.refusals.Refusal.TheVariants.{BadArguments}
use Rattle.st_image.specs.Images.{ImageView}
use Rattle.st_calls.specs.declared.calls.Answer.{Answer as CallAnswer}
use Rattle.st_calls.specs.declared.calls.Call.{Call}
use Rattle.st_calls.specs.Does.{Does, told}
use Rattle.st_system.specs.declared.events.Answer.{Answer}
use Rattle.st_system.specs.declared.events.Answer.TheVariants.{Called}
use Rattle.st_system.specs.Schedules.{BareClaim, claim_of, schedule}
use Rattle.st_system.specs.SystemWorkers.{SystemView, WorkerView}
use Rattle.st_system.specs.ImageEvents.{Calls}
use Rattle.st_system.specs.ClaimEvents.{AtWorker}
use Rattle.st_system.specs.WorkerEvents.{AtSystemWorker}

-- a call of the image, which leaves the workers
pub image_acts : {G : Type 0} (c : Call) (S T : SystemView G) (r : Result CallAnswer Refusal) → Does S.image c r T.image → T.workers ≡ S.workers → Calls (schedule S) c (told Called r) (schedule T)
image_acts {G} c S T r h same = inr (r, refl, h, ap (map claim_of) same)

-- there is no such worker
pub no_worker : {G : Type 0} (Does : ImageView → Option BareClaim → Result Answer Refusal → ImageView → Option BareClaim → Type 0) (S T : SystemView G) (w : ℕ) (r : Result Answer Refusal) → length S.workers ≤ w → r ≡ Err BadArguments → T ≡ S → AtWorker Does (schedule S) w r (schedule T) (slice_get (schedule S).claims w)
no_worker {G} Does S T w r past e same =
    let none : slice_get (map claim_of S.workers) w ≡ None = slice_get-map claim_of S.workers w ∙ ap (option_map claim_of) (slice_get_past S.workers w past) in
    subst (λ (o : Option (Option BareClaim)). AtWorker Does (schedule S) w r (schedule T) o) (sym none) (e, ap schedule same)

-- the worker is changed, and the image
pub worker_acts : {G : Type 0} (Does : ImageView → Option BareClaim → Result Answer Refusal → ImageView → Option BareClaim → Type 0) (S T : SystemView G) (w : ℕ) (s t : WorkerView G) (r : Result Answer Refusal) → slice_get S.workers w ≡ Some s → T.workers ≡ slice_set S.workers w t → Does S.image (claim_of s) r T.image (claim_of t) → AtWorker Does (schedule S) w r (schedule T) (slice_get (schedule S).claims w)
worker_acts {G} Does S T w s t r there changed does =
    let some : slice_get (map claim_of S.workers) w ≡ Some (claim_of s) = slice_get-map claim_of S.workers w ∙ ap (option_map claim_of) there in
    subst (λ (o : Option (Option BareClaim)). AtWorker Does (schedule S) w r (schedule T) o) (sym some) (claim_of t, does, ap (map claim_of) changed ∙ map-set claim_of S.workers w t)

-- the same, where the whole of each worker is seen
pub no_system_worker : {G : Type 0} (Does : ImageView → WorkerView G → Result Answer Refusal → ImageView → WorkerView G → Type 0) (S T : SystemView G) (w : ℕ) (r : Result Answer Refusal) → length S.workers ≤ w → T.workers ≡ S.workers → AtSystemWorker Does S w r T (slice_get S.workers w)
no_system_worker {G} Does S T w r past same =
    subst (λ (o : Option (WorkerView G)). AtSystemWorker Does S w r T o) (sym (slice_get_past S.workers w past)) same

pub system_worker_acts : {G : Type 0} (Does : ImageView → WorkerView G → Result Answer Refusal → ImageView → WorkerView G → Type 0) (S T : SystemView G) (w : ℕ) (s t : WorkerView G) (r : Result Answer Refusal) → slice_get S.workers w ≡ Some s → T.workers ≡ slice_set S.workers w t → Does S.image s r T.image t → AtSystemWorker Does S w r T (slice_get S.workers w)
system_worker_acts {G} Does S T w s t r there changed does =
    subst (λ (o : Option (WorkerView G)). AtSystemWorker Does S w r T o) (sym there) (t, does, changed)
