-- Workers of a system, and what holds of each.
use Rattle.std.specs.Prelude.{◌≡◌, ◌⊎◌, ℕ, List, [], Option, None}
use Rattle.std.specs.Option.{IfSome}
use Rattle.st_classes.specs.declared.edits.Edit.{Edit}
use Rattle.st_classes.specs.declared.values.Selector.{Selector}
use Rattle.st_guard.specs.SiteTables.{NoSites}
use Rattle.st_guard.specs.Moves.{CachesView, IsAt}
use Rattle.st_turn.specs.Claims.{ClaimView}
use Rattle.st_image.specs.Images.{ImageView, world}
use Rattle.st_image.specs.GoingOn.{FitsClaim}
use Rattle.st_image.specs.KeptEdits.{KeepsBeginning}

-- a worker's caches, and its claim, or none
pub record WorkerView (G : Type 0) : Type 0 where
  pub caches : CachesView G
  pub claim : Option ClaimView

-- one image and its workers
pub record SystemView (G : Type 0) : Type 0 where
  pub image : ImageView
  pub workers : List (WorkerView G)

-- if there is a claim, the caches can follow it: the list that they keep is a prefix of its edits
abbrev pub CanFollow : {G : Type 0} → CachesView G → Option ClaimView → Type 0
CanFollow v claim = IfSome claim (λ c. KeepsBeginning c.edits v)

-- a worker's claim fits an image, and the list that its caches keep is a prefix of the class table's edits
pub record FitsWorker {G : Type 0} (i : ImageView) (s : WorkerView G) : Type 0 where
  pub claim : IfSome s.claim (FitsClaim i)
  pub kept : KeepsBeginning (world i).edits s.caches

-- caches have no entry, and keep no list of edits
pub record HaveNothing {G : Type 0} (v : CachesView G) : Type 0 where
  pub sites : NoSites v.sites
  pub recent : v.recent ≡ []
  pub kept : v.kept ≡ None

-- a worker joins a new system, without a claim: its caches stay if the list that they keep is a prefix of the class table's
-- edits, and are emptied otherwise
pub record JoinsSystem {G : Type 0} (edits : List Edit) (v : CachesView G) (s : WorkerView G) : Type 0 where
  pub claim : s.claim ≡ None
  pub caches : (KeepsBeginning edits v × (s.caches ≡ v)) ⊎ ((¬ KeepsBeginning edits v) × HaveNothing s.caches)

-- if the caches keep a list of edits, they are valid at it
abbrev pub AreValidWhereKept : {G : Type 0} → (G → ℕ) → (G → Selector → ℕ) → CachesView G → Type 0
AreValidWhereKept count floor v = IfSome v.kept (λ k. IsAt (count v.guard) (floor v.guard) v.sites v.recent v.edits k)
