-- What the events of a worker do to its caches and to its whole claim.
-- The whole claim has the sends and the stamp, which a schedule does not see.
use Rattle.std.specs.Prelude.{◌≡◌, ℕ, Bool, Option, Some, None, Result, Ok, Err, slice_get, slice_set}
use Rattle.st_classes.specs.declared.edits.Edit.{Edit}
use Rattle.st_classes.specs.declared.values.ActorId.{ActorId}
use Rattle.st_classes.specs.declared.values.Selector.{Selector}
use Rattle.st_classes.specs.declared.refusals.Refusal.{Refusal}
use Rattle.st_guard.specs.Moves.{CachesView}
use Rattle.st_turn.specs.declared.body.Stop.{Stop}
use Rattle.st_turn.specs.Claims.{ClaimView}
use Rattle.st_turn.specs.WorkerSteps.{HasMoved, Steps}
use Rattle.st_image.specs.Images.{ImageView}
use Rattle.st_image.specs.Commits.{ChecksOut, Commits}
use Rattle.st_system.specs.declared.events.Answer.{Answer}
use Rattle.st_system.specs.declared.events.Answer.TheVariants.{Done, Stopped}
use Rattle.st_system.specs.declared.events.Event.{Event}
use Rattle.st_system.specs.declared.events.Event.TheVariants.{Checkout, Commit, Forget, Local, Release}
use Rattle.st_calls.specs.Does.{told}
use Rattle.st_system.specs.ClaimEvents.{told_of_commit}
use Rattle.st_system.specs.SystemWorkers.{SystemView, WorkerView}

-- An event of a worker does this to the image and to the worker, and nothing to the others. If there is no such worker, it changes none.
abbrev pub AtSystemWorker : {G : Type 0}
    → (ImageView → WorkerView G → Result Answer Refusal → ImageView → WorkerView G → Type 0)
    → SystemView G → ℕ → Result Answer Refusal → SystemView G → Option (WorkerView G) → Type 0
AtSystemWorker Does S w r T None = T.workers ≡ S.workers
AtSystemWorker {G} Does S w r T (Some s) = (t : WorkerView G)
    × Does S.image s r T.image t
    × (T.workers ≡ slice_set S.workers w t)

-- ---- checkout and release

-- the claim that a checkout handed out, whole
abbrev pub taken_out : Result ClaimView Refusal → Option ClaimView
taken_out (Ok c) = Some c
taken_out (Err e) = None

-- a worker without a claim is given the claim of the checkout; a worker with a claim stays as it is
abbrev pub WorkerChecksOut : {G : Type 0} → ActorId → ImageView → WorkerView G → Option ClaimView → Result Answer Refusal
    → ImageView → WorkerView G → Type 0
WorkerChecksOut a i s (Some c) r j t = t ≡ s
WorkerChecksOut a i s None r j t = (result : Result ClaimView Refusal)
    × (r ≡ told (λ _. Done) result)
    × ChecksOut i a result j
    × (t ≡ record s { claim = taken_out result })

-- ---- a step

-- the caches are moved to the edits of a claim, and at most one step of the claim is taken with them
pub record MovesAndSteps {G : Type 0} (count : G → ℕ) (floor : G → Selector → ℕ) (raises : Edit → Selector → Bool)
    (v : CachesView G) (c : ClaimView) (r : Result Answer Refusal) (w : CachesView G) (d : ClaimView) : Type 0 where
  pub moved : CachesView G
  pub stop : Result Stop Refusal
  pub answered : r ≡ told Stopped stop
  pub moves : HasMoved count floor raises v moved c.edits
  pub steps : Steps floor moved c stop w d

-- a worker steps its claim; without one it stays as it is
abbrev pub WorkerTakesStep : {G : Type 0} → (G → ℕ) → (G → Selector → ℕ) → (Edit → Selector → Bool) → WorkerView G
    → Option ClaimView → Result Answer Refusal → WorkerView G → Type 0
WorkerTakesStep count floor raises s None r t = t ≡ s
WorkerTakesStep count floor raises s (Some c) r t = (d : ClaimView)
    × MovesAndSteps count floor raises s.caches c r t.caches d
    × (t.claim ≡ Some d)

-- ---- a commit

-- the claim that a commit handed back, whole
abbrev pub given_back : Result ℕ (Refusal × Option ClaimView) → Option ClaimView
given_back (Ok n) = None
given_back (Err refused) = refused.1

-- a worker commits its claim, with its sends and its stamp, and keeps its caches and what is handed back; without a claim it stays as
-- it is
abbrev pub WorkerCommits : {G : Type 0} → ImageView → WorkerView G → Option ClaimView → Result Answer Refusal → ImageView
    → WorkerView G → Type 0
WorkerCommits i s None r j t = t ≡ s
WorkerCommits i s (Some c) r j t = (result : Result ℕ (Refusal × Option ClaimView))
    × (r ≡ told_of_commit result)
    × Commits i c result j
    × (t ≡ record s { claim = given_back result })

-- ---- events

-- what an event does to the whole of its worker; a release takes only the claim, and forgetting keeps it
abbrev pub TellsWork : {G : Type 0} → (G → ℕ) → (G → Selector → ℕ) → (Edit → Selector → Bool) → SystemView G → Event
    → Result Answer Refusal → SystemView G → Type 0
TellsWork count floor raises S (Checkout w a) r T =
    AtSystemWorker (λ i s answer j t. WorkerChecksOut a i s s.claim answer j t) S w r T (slice_get S.workers w)
TellsWork count floor raises S (Local w) r T =
    AtSystemWorker (λ i s answer j t. WorkerTakesStep count floor raises s s.claim answer t) S w r T (slice_get S.workers w)
TellsWork count floor raises S (Commit w) r T =
    AtSystemWorker (λ i s answer j t. WorkerCommits i s s.claim answer j t) S w r T (slice_get S.workers w)
TellsWork count floor raises S (Release w) r T =
    AtSystemWorker (λ i s answer j t. t ≡ record s { claim = None }) S w r T (slice_get S.workers w)
TellsWork count floor raises S (Forget w) r T =
    AtSystemWorker (λ i s answer j t. t.claim ≡ s.claim) S w r T (slice_get S.workers w)
TellsWork count floor raises S e r T = Unit {0}
