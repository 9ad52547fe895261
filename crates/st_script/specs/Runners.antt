-- A runner: an image, and the caches of the worker that takes the steps of its actors. What one quantum does.
use Rattle.std.specs.Prelude.{◌≡◌, ◌≤◌, ℕ, [], Bool, false, Some, Result, Ok, Err, IfOk, MatchResult}
use Rattle.std.specs.declared.alloc.AllocError.{AllocError}
use Rattle.st_classes.specs.declared.values.ActorId.{ActorId}
use Rattle.st_classes.specs.declared.values.Selector.{Selector}
use Rattle.st_classes.specs.declared.edits.Edit.{Edit}
use Rattle.st_classes.specs.declared.refusals.Refusal.{Refusal}
use Rattle.st_classes.specs.declared.refusals.Refusal.TheVariants.{NoMemory}
use Rattle.st_guard.specs.SiteTables.{NoSites}
use Rattle.st_guard.specs.Switching.{SwitchView, floor_in}
use Rattle.st_guard.specs.Touching.{touches}
use Rattle.st_guard.specs.Moves.{CachesView}
use Rattle.st_turn.specs.declared.body.Stop.{Stop}
use Rattle.st_turn.specs.Claims.{ClaimView}
use Rattle.st_turn.specs.WorkerSteps.{HasMoved, Runs as TakesSteps}
use Rattle.st_image.specs.Images.{ImageView, world}
use Rattle.st_image.specs.Scheduling.{IsNextReady, is_free_at}
use Rattle.st_image.specs.Commits.{ChecksOut, Settles}
use Rattle.st_image.specs.KeptEdits.{KeepsBeginning}

-- ---- the guard of the worker's caches: an edit raises the floors of the selectors that it touches

abbrev pub GuardView : Type 0
GuardView = SwitchView

-- the number of edits that it has noted
abbrev pub noted : GuardView → ℕ
noted g = g.edits

-- the floor of a selector
abbrev pub floor_of : GuardView → Selector → ℕ
floor_of g s = floor_in g s

-- whether an edit raises the floor of a selector
abbrev pub raises : Edit → Selector → Bool
raises e s = touches e s

-- ---- the runner

-- an image, and the caches of a worker
pub record RunnerView : Type 0 where
  pub image : ImageView
  pub caches : CachesView GuardView

-- the edits that the caches hold, if any, are a prefix of the image's
abbrev pub KeepsFirst : ImageView → CachesView GuardView → Type 0
KeepsFirst i v = KeepsBeginning (world i).edits v

-- new caches: they are empty, and hold the empty list of edits, which is the kernel's
pub record AreNew (v : CachesView GuardView) : Type 0 where
  pub guard : v.guard ≡ record { edits = 0; all = 0; each = [] }
  pub no_site : NoSites v.sites
  pub no_recent : v.recent ≡ []
  pub count : v.edits ≡ 0
  pub kept : v.kept ≡ Some []

-- ---- a quantum

-- the caches move to the edits of a claim, and the claim takes steps, up to a quantum
abbrev pub Steps : ℕ → CachesView GuardView → ClaimView → Result Stop AllocError → CachesView GuardView
    → ClaimView → Type 0
Steps quantum v c ran w d = (moved : CachesView GuardView) × HasMoved noted floor_of raises v moved c.edits
    × TakesSteps floor_of quantum moved c ran w d

-- the answer of a quantum: that of its commit, but NoMemory if the commit succeeds after memory ran out in the steps
abbrev pub quantum_answer : Result Stop AllocError → Result ℕ Refusal → Result ℕ Refusal
quantum_answer (Ok stop) settled = settled
quantum_answer (Err e) (Ok n) = Err NoMemory
quantum_answer (Err e) (Err f) = Err f

-- a claim takes steps, and they are committed
abbrev pub Works : ℕ → RunnerView → ClaimView → Result ℕ Refusal → RunnerView → Type 0
Works quantum i c result j = (ran : Result Stop AllocError) × (d : ClaimView) × (settled : Result ℕ Refusal)
    × Steps quantum i.caches c ran j.caches d
    × Settles i.image d settled j.image
    × (result ≡ quantum_answer ran settled)

-- an actor is checked out, and its claim takes steps
abbrev pub TakesQuantum : ℕ → RunnerView → ActorId → Result ℕ Refusal → RunnerView → Type 0
TakesQuantum quantum i a result j = (claim : Result ClaimView Refusal) × (k : ImageView) × ChecksOut i.image a claim k
    × MatchResult claim
    (λ c. Works quantum (record i { image = k }) c result j)
    (λ e. (result ≡ Err e) × (j ≡ record i { image = k }))

-- no actor can be checked out
abbrev pub NoneReady : RunnerView → Type 0
NoneReady i = (a : ℕ) → is_free_at i.image a ≡ false

-- the next ready actor takes a quantum, of one step or more
abbrev pub NextAdvances : ℕ → RunnerView → Result ℕ Refusal → RunnerView → Type 0
NextAdvances quantum i result j = (a : ActorId) × IsNextReady i.image a.0 × TakesQuantum quantum i a result j
    × IfOk result (λ n. 1 ≤ n)
