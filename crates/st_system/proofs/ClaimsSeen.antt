-- What a schedule sees of the steps and the commit of a claim.
use Rattle.std.proofs.Common.{◌≡◌, ℕ, Option, Result, Ok, Err, refl, ap, sym, subst}
use Rattle.std.specs.declared.alloc.AllocError.{AllocError}
use Rattle.st_classes.specs.declared.values.Selector.{Selector}
use Rattle.st_classes.specs.declared.refusals.Refusal.{Refusal}
use Rattle.st_classes.specs.declared.refusals.Refusal.TheVariants.{NoMemory}
use Rattle.st_guard.specs.Moves.{CachesView}
use Rattle.st_turn.specs.declared.body.Stop.{Stop}
use Rattle.st_turn.specs.declared.body.Stop.TheVariants.{More, Ended, Outer, Limit}
use Rattle.st_turn.specs.Claims.{BeganAs, ClaimView}
use Rattle.st_turn.specs.WorkerSteps.{Steps}
use Rattle.st_image.specs.Images.{ImageView}
use Rattle.st_image.specs.Commits.{Commits}
use Rattle.st_system.specs.declared.events.Answer.{Answer}
use Rattle.st_system.specs.Schedules.{BareClaim, bare}
use Rattle.st_system.specs.ClaimEvents.{CommitsClaim, TakesOne, handed_back, told_of_commit}

-- a step that a worker took
pub takes_one : {G : Type 0} (floor : G → Selector → ℕ) (v w : CachesView G) (c d : ClaimView) (stop : Stop) → Steps {E = AllocError} floor v c (Ok stop) w d → TakesOne (bare c) (Ok stop) (bare d)
takes_one {G} floor v w c d More h = (h.step, ap bare h.claim)
takes_one {G} floor v w c d Ended h = (h.0, ap bare h.2)
takes_one {G} floor v w c d Outer h = (h.0, ap bare h.2)
takes_one {G} floor v w c d Limit h = (h.0, ap bare h.2)

-- what a step did is the same, whatever a refusal would have been
pub steps_as : {G : Type 0} (D E : Type 0) (floor : G → Selector → ℕ) (v w : CachesView G) (c d : ClaimView) (stop : Stop) → Steps {E = D} floor v c (Ok stop) w d → Steps {E = E} floor v c (Ok stop) w d
steps_as {G} D E floor v w c d More h = h
steps_as {G} D E floor v w c d Ended h = h
steps_as {G} D E floor v w c d Outer h = h
steps_as {G} D E floor v w c d Limit h = h

-- a step for which memory was refused
pub takes_none : (c d : ClaimView) → d ≡ c → TakesOne (bare c) (Err NoMemory) (bare d)
takes_none c d h = (refl, ap bare h)

-- a commit
pub commits_claim : (i j : ImageView) (c : ClaimView) (result : Result ℕ (Refusal × Option ClaimView)) (r : Result Answer Refusal) (left : Option BareClaim) → Commits i c result j → r ≡ told_of_commit result → left ≡ handed_back result → CommitsClaim i (bare c) r j left
commits_claim i j c result r left h e k = (c.sends, c.stamp, result, e, h, k)

-- a claim that stayed began as it did
pub began_same : (c d : ClaimView) → d ≡ c → BeganAs c d
began_same c d e = subst (BeganAs c) (sym e) (record { actor = refl; edits = refl; before = refl; stamp = refl })
