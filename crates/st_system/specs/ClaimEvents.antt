-- Events of a worker: what they do to the image and to the worker's claim.
use Rattle.std.specs.Prelude.{◌≡◌, ℕ, ◌+◌, List, [], Option, Some, None, Result, Ok, Err, slice_set}
use Rattle.std.specs.Option.{option_map}
use Rattle.st_classes.specs.declared.values.ActorId.{ActorId}
use Rattle.st_classes.specs.declared.refusals.Refusal.{Refusal}
use Rattle.st_classes.specs.declared.refusals.Refusal.TheVariants.{NothingToDo, BadArguments, NoMemory}
use Rattle.st_turn.specs.declared.body.Stop.{Stop}
use Rattle.st_turn.specs.declared.body.Stop.TheVariants.{More}
use Rattle.st_turn.specs.declared.claim.Sent.{Sent}
use Rattle.st_turn.specs.Claims.{ClaimView}
use Rattle.st_turn.specs.StepResults.{StepResult, more, stop_result}
use Rattle.st_turn.specs.WorkerSteps.{next_step}
use Rattle.st_image.specs.Images.{ImageView}
use Rattle.st_image.specs.Commits.{ChecksOut, Commits, IsReleased}
use Rattle.st_system.specs.declared.events.Answer.{Answer}
use Rattle.st_system.specs.declared.events.Answer.TheVariants.{Done, Stopped, Steps}
use Rattle.st_system.specs.Schedules.{BareClaim, Schedule, bare, with_sends}
use Rattle.st_calls.specs.Does.{told}

-- an event of a worker: refused if there is no such worker; otherwise it does this to the image and to the worker's claim, and every
-- other worker keeps its own
abbrev pub AtWorker : (ImageView → Option BareClaim → Result Answer Refusal → ImageView → Option BareClaim → Type 0)
    → Schedule → ℕ → Result Answer Refusal → Schedule → Option (Option BareClaim) → Type 0
AtWorker Does S w r T None = (r ≡ Err BadArguments) × (T ≡ S)
AtWorker Does S w r T (Some claim) = (left : Option BareClaim)
    × Does S.image claim r T.image left
    × (T.claims ≡ slice_set S.claims w left)

-- an event of a claim; without a claim there is nothing to do
abbrev pub OfClaim : (ImageView → BareClaim → Result Answer Refusal → ImageView → Option BareClaim → Type 0)
    → ImageView → Option BareClaim → Result Answer Refusal → ImageView → Option BareClaim → Type 0
OfClaim Does i None r j left = (r ≡ Err NothingToDo) × (j ≡ i) × (left ≡ None)
OfClaim Does i (Some c) r j left = Does i c r j left

-- ---- checkout

-- the claim that a checkout handed out
abbrev pub handed_out : Result ClaimView Refusal → Option BareClaim
handed_out (Ok c) = Some (bare c)
handed_out (Err e) = None

-- a worker that has a claim is refused; another is given the claim of the checkout
abbrev pub TakesClaim : ActorId → ImageView → Option BareClaim → Result Answer Refusal → ImageView → Option BareClaim
    → Type 0
TakesClaim a i (Some c) r j left = (r ≡ Err BadArguments) × (j ≡ i) × (left ≡ Some c)
TakesClaim a i None r j left = (result : Result ClaimView Refusal)
    × (r ≡ told (λ _. Done) result)
    × ChecksOut i a result j
    × (left ≡ handed_out result)

-- ---- a step

-- what the next step of a claim is
abbrev pub next_of : BareClaim → StepResult
next_of c = next_step (with_sends c [] 0)

-- a step is taken, if the actor's next step is its own and the claim may have one more; otherwise the claim stays, and so it does if
-- memory runs out
abbrev pub TakesOne : BareClaim → Result Stop Refusal → BareClaim → Type 0
TakesOne c (Ok More) d = (next_of c ≡ more d.after) × (d ≡ record c { after = d.after; steps = c.steps + 1 })
TakesOne c (Ok stop) d = (next_of c ≡ stop_result stop c.after) × (d ≡ c)
TakesOne c (Err e) d = (e ≡ NoMemory) × (d ≡ c)

-- a step of a claim; it does not change the image
abbrev pub StepsClaim : ImageView → BareClaim → Result Answer Refusal → ImageView → Option BareClaim → Type 0
StepsClaim i c r j left = (result : Result Stop Refusal)
    × (d : BareClaim)
    × (r ≡ told Stopped result)
    × TakesOne c result d
    × (j ≡ i)
    × (left ≡ Some d)

-- ---- commit and release

-- what a commit answered
abbrev pub told_of_commit : Result ℕ (Refusal × Option ClaimView) → Result Answer Refusal
told_of_commit (Ok n) = Ok (Steps n)
told_of_commit (Err refused) = Err refused.0

-- the claim that a commit handed back
abbrev pub handed_back : Result ℕ (Refusal × Option ClaimView) → Option BareClaim
handed_back (Ok n) = None
handed_back (Err refused) = option_map bare refused.1

-- a claim is committed or refused, with some sends and a stamp; the worker keeps what is handed back
abbrev pub CommitsClaim : ImageView → BareClaim → Result Answer Refusal → ImageView → Option BareClaim → Type 0
CommitsClaim i c r j left = (sends : List Sent)
    × (stamp : ℕ)
    × (result : Result ℕ (Refusal × Option ClaimView))
    × (r ≡ told_of_commit result)
    × Commits i (with_sends c sends stamp) result j
    × (left ≡ handed_back result)

-- a claim is given back, and is the worker's no longer
abbrev pub ReleasesClaim : ImageView → BareClaim → Result Answer Refusal → ImageView → Option BareClaim → Type 0
ReleasesClaim i c r j left = (r ≡ Ok Done) × IsReleased i c.actor j × (left ≡ None)

-- ---- emptied caches

-- nothing that a schedule sees changes
abbrev pub KeepsClaim : ImageView → Option BareClaim → Result Answer Refusal → ImageView → Option BareClaim → Type 0
KeepsClaim i claim r j left = (r ≡ Ok Done) × (j ≡ i) × (left ≡ claim)
