-- What is changed in one place stays in the others.
use Rattle.std.proofs.Common.{◌≡◌, ◌≢◌, ℕ, zero, suc, [], ◌∷◌, List, false, Some, refl, ap, sym, ◌∙◌}
use Rattle.std.specs.Prelude.{map, slice_get, slice_set}
use Rattle.std.proofs.lemmas.List.{map-set}
use Rattle.std.proofs.lemmas.Option.{slice_get-map}
use Rattle.st_guard.specs.Moves.{CachesView}
use Rattle.st_image.proofs.Lists.{set_at_same}
use Rattle.std.specs.Option.{option_map}
use Rattle.st_system.specs.declared.events.Event.{Event}
use Rattle.st_system.specs.Others.{LeavesOthers, caches_of, is_of_caches, worker_of}
use Rattle.st_system.specs.SystemWorkers.{WorkerView}

get_other : {X : Type 0} (xs : List X) (j k : ℕ) (x : X) → j ≢ k → slice_get (slice_set xs k x) j ≡ slice_get xs j
get_other [] j k x n = refl
get_other (y ∷ xs) zero zero x n = absurd (n refl)
get_other (y ∷ xs) zero (suc k) x n = refl
get_other (y ∷ xs) (suc j) zero x n = refl
get_other (y ∷ xs) (suc j) (suc k) x n = get_other xs j k x (λ e. n (ap suc e))

-- nothing is changed
pub leaves_all : {G : Type 0} (e : Event) (old new : List (WorkerView G)) → new ≡ old → LeavesOthers e old new
leaves_all {G} e old new same = record {
  workers = λ place other. ap (λ (workers : List (WorkerView G)). slice_get workers place) same;
  caches = λ apart. ap (λ (workers : List (WorkerView G)). map caches_of workers) same;
}

same_caches : {G : Type 0} (old : List (WorkerView G)) (w : ℕ) (s t : WorkerView G) → slice_get old w ≡ Some s → t.caches ≡ s.caches → map caches_of (slice_set old w t) ≡ map caches_of old
same_caches {G} old w s t there same =
    map-set caches_of old w t
    ∙ ap (λ (v : CachesView G). slice_set (map caches_of old) w v) same
    ∙ set_at_same (map caches_of old) w s.caches (slice_get-map caches_of old w ∙ ap (option_map caches_of) there)

-- the worker of an event is changed
pub leaves_others : {G : Type 0} (e : Event) (w : ℕ) (old : List (WorkerView G)) (s t : WorkerView G) → worker_of e ≡ Some w → slice_get old w ≡ Some s → (is_of_caches e ≡ false → t.caches ≡ s.caches) → LeavesOthers e old (slice_set old w t)
leaves_others {G} e w old s t own there kept = record {
  workers = λ place other. get_other old place w t (λ here. other (own ∙ ap Some (sym here)));
  caches = λ apart. same_caches old w s t there (kept apart);
}
