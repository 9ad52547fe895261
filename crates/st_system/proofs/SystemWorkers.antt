-- Workers fit their image also where it goes on.
use Rattle.std.proofs.Common.{refl, ◌≡◌, ◌⊎◌, ℕ, [], ◌∷◌, ◌++◌, List, Option, Some, None, ap, sym, ◌∙◌, subst, append_assoc, append-nil, inl, inr}
use Rattle.std.specs.Prelude.{All, slice_set}
use Rattle.std.specs.List.{AllZip}
use Rattle.std.specs.Option.{IfSome}
use Rattle.std.proofs.lemmas.List.Elements.{All-cons, All-nil, All-set, All-weaker}
use Rattle.st_classes.specs.declared.edits.Edit.{Edit}
use Rattle.st_classes.specs.EditLists.{Begins}
use Rattle.st_guard.specs.Moves.{CachesView}
use Rattle.st_turn.specs.Claims.{BeganAs, ClaimView}
use Rattle.st_image.specs.Images.{ImageView, world}
use Rattle.st_image.proofs.Following.{begins_same, fits_claim_as, fits_claim_later, kept_later}
use Rattle.st_image.proofs.KnownBodies.{last_as_before}
use Rattle.st_image.specs.GoingOn.{FitsClaim, GoesOnIn}
use Rattle.st_image.specs.KeptEdits.{KeepsBeginning}
use Rattle.st_system.specs.SystemWorkers.{CanFollow, FitsWorker, HaveNothing, JoinsSystem, WorkerView}

claim_later : (o : Option ClaimView) (i j : ImageView) → GoesOnIn i j → IfSome o (FitsClaim i) → IfSome o (FitsClaim j)
claim_later None i j on h = tt
claim_later (Some c) i j on h = fits_claim_later i j c on h

pub goes_on_same : (i : ImageView) → GoesOnIn i i
goes_on_same i = record { edits = begins_same (world i).edits; bodies = last_as_before i i refl refl refl }

-- a worker fits a later image
pub fits_later : {G : Type 0} (i j : ImageView) (s : WorkerView G) → GoesOnIn i j → FitsWorker i s → FitsWorker j s
fits_later {G} i j s on h = record { claim = claim_later s.claim i j on h.claim; kept = kept_later s.caches (world i).edits (world j).edits on.edits h.kept }

-- so do all
pub all_later : {G : Type 0} (i j : ImageView) (workers : List (WorkerView G)) → GoesOnIn i j → All (FitsWorker i) workers → All (FitsWorker j) workers
all_later {G} i j workers on h = All-weaker (FitsWorker i) (FitsWorker j) (λ s f. fits_later i j s on f) workers h

-- a worker whose claim took a step fits the image that it fitted
pub step_fits : {G : Type 0} (i : ImageView) (s : WorkerView G) (w : CachesView G) (c d : ClaimView) → s.claim ≡ Some c → BeganAs c d → KeepsBeginning d.edits w → FitsWorker i s → FitsWorker i (record { caches = w; claim = Some d })
step_fits {G} i s w c d at began follows h =
    let fits : FitsClaim i d = fits_claim_as i c d began (subst (λ (o : Option ClaimView). IfSome o (FitsClaim i)) at h.claim) in
    record { claim = fits; kept = kept_later w d.edits (world i).edits fits.edits follows }

-- what a commit handed back is followed as it was
pub follows_back : {G : Type 0} (v : CachesView G) (c : ClaimView) (o : Option ClaimView) → KeepsBeginning c.edits v → (o ≡ None) ⊎ (o ≡ Some c) → CanFollow v o
follows_back {G} v c o h (inl e) = subst (λ (x : Option ClaimView). CanFollow v x) (sym e) tt
follows_back {G} v c o h (inr e) = subst (λ (x : Option ClaimView). CanFollow v x) (sym e) h

pub fits_back : (c : ClaimView) (o : Option ClaimView) (i j : ImageView) → GoesOnIn i j → FitsClaim i c → (o ≡ None) ⊎ (o ≡ Some c) → IfSome o (FitsClaim j)
fits_back c o i j on h (inl e) = subst (λ (x : Option ClaimView). IfSome x (FitsClaim j)) (sym e) tt
fits_back c o i j on h (inr e) = subst (λ (x : Option ClaimView). IfSome x (FitsClaim j)) (sym e) (fits_claim_later i j c on h)

-- one more in both lists
pub zip_push : {A B : Type 0} (R : A → B → Type 0) (xs : List A) (ys : List B) (x : A) (y : B) → AllZip R xs ys → R x y → AllZip R (xs ++ x ∷ []) (ys ++ y ∷ [])
zip_push {A} {B} R [] [] x y h r = (r, h)
zip_push {A} {B} R (z ∷ xs) (w ∷ ys) x y h r = (h.0, zip_push R xs ys x y h.1 r)
zip_push {A} {B} R [] (w ∷ ys) x y h r = absurd h
zip_push {A} {B} R (z ∷ xs) [] x y h r = absurd h

-- caches that follow a class table keep a beginning of its edits, and those that were emptied keep none
follows_joined : {G : Type 0} (edits : List Edit) (v w : CachesView G) → (KeepsBeginning edits v × (w ≡ v)) ⊎ ((¬ KeepsBeginning edits v) × HaveNothing w) → KeepsBeginning edits w
follows_joined {G} edits v w (inl follows) = subst (λ (u : CachesView G). KeepsBeginning edits u) (sym follows.1) follows.0
follows_joined {G} edits v w (inr emptied) = subst (λ (o : Option (List Edit)). IfSome o (λ k. Begins k edits)) (sym emptied.1.kept) tt

-- a worker that joins a system fits
joined_fits : {G : Type 0} (i : ImageView) (v : CachesView G) (s : WorkerView G) → JoinsSystem (world i).edits v s → FitsWorker i s
joined_fits {G} i v s h = record {
  claim = subst (λ (o : Option ClaimView). IfSome o (FitsClaim i)) (sym h.claim) tt;
  kept = follows_joined (world i).edits v s.caches h.caches;
}

-- so do all
pub all_joined : {G : Type 0} (i : ImageView) (vs : List (CachesView G)) (workers : List (WorkerView G)) → AllZip (JoinsSystem (world i).edits) vs workers → All (FitsWorker i) workers
all_joined {G} i [] [] h = All-nil (FitsWorker i)
all_joined {G} i (v ∷ vs) (s ∷ workers) h = All-cons (FitsWorker i) s workers (joined_fits i v s h.0) (all_joined i vs workers h.1)
all_joined {G} i [] (s ∷ workers) h = absurd h
all_joined {G} i (v ∷ vs) [] h = absurd h

-- one worker is changed, and the image goes on
pub all_set : {G : Type 0} (i j : ImageView) (workers : List (WorkerView G)) (place : ℕ) (t : WorkerView G) → GoesOnIn i j → All (FitsWorker i) workers → FitsWorker j t → All (FitsWorker j) (slice_set workers place t)
all_set {G} i j workers place t on h fits = All-set (FitsWorker j) workers place t fits (all_later i j workers on h)
