-- Quanta, and a run that has come as far as some quantum.
use Rattle.std.proofs.Common.{◌≡◌, ℕ, zero, suc, ◌+◌, ◌-◌, ◌<◌, ◌≤◌, Bool, true, false, Result, Ok, Err, MatchResult, if◌then◌else◌, refl, sym, ap, subst, inl, inr, arith}
use Rattle.std.specs.declared.alloc.AllocError.{AllocError}
use Rattle.st_classes.specs.declared.values.ActorId.{ActorId}
use Rattle.st_classes.specs.declared.values.Selector.{Selector}
use Rattle.st_classes.specs.declared.refusals.Refusal.{Refusal}
use Rattle.st_guard.specs.Moves.{CachesView}
use Rattle.st_turn.specs.declared.body.Stop.{Stop}
use Rattle.st_turn.specs.declared.body.Stop.TheVariants.{More, Ended, Outer, Limit}
use Rattle.st_turn.specs.Claims.{ClaimView}
use Rattle.st_turn.specs.WorkerSteps.{Row, Runs as TakesSteps}
use Rattle.st_image.specs.Images.{ImageView}
use Rattle.st_image.specs.Commits.{ChecksOut, Settles, stands_before_act}
use Rattle.st_wire.specs.declared.replies.Reply.{Reply}
use Rattle.st_wire.specs.declared.replies.Reply.TheVariants as reply
use Rattle.st_script.specs.Runners.{RunnerView, NextAdvances, NoneReady, Works, floor_of, quantum_answer}
use Rattle.st_script.specs.CommandReplies.{Runs}

one_or_none : (b : Bool) → (if b then 1 else 0) ≤ 1
one_or_none true = omega arith
one_or_none false = omega arith

-- a row of steps has so many
row_steps : {G : Type 0} (floor : G → Selector → ℕ) (n : ℕ) (v : CachesView G) (c : ClaimView) (w : CachesView G) (d : ClaimView) → Row floor n v c w d → d.steps ≡ c.steps + n
row_steps floor zero v c w d h = omega (arith, ap (λ (x : ClaimView). x.steps) h.1)
row_steps floor (suc n) v c w d (u, e, row, takes) = omega (arith, row_steps floor n v c u e row, ap (λ (x : ClaimView). x.steps) takes.claim)

-- a run of steps has no more than so many
ran_few : {G : Type 0} (floor : G → Selector → ℕ) (limit : ℕ) (v : CachesView G) (c : ClaimView) (r : Result Stop AllocError) (w : CachesView G) (d : ClaimView) → TakesSteps floor limit v c r w d → d.steps ≤ c.steps + limit
ran_few floor limit v c (Ok More) w d row = omega (arith, row_steps floor limit v c w d row)
ran_few floor limit v c (Ok Ended) w d (n, few, row, e) = omega (arith, few, row_steps floor n v c w d row)
ran_few floor limit v c (Ok Outer) w d (n, few, row, e) = omega (arith, few, row_steps floor n v c w d row)
ran_few floor limit v c (Ok Limit) w d (n, few, row, e) = omega (arith, few, row_steps floor n v c w d row)
ran_few floor limit v c (Err e) w d (n, u, few, row) = omega (arith, few, row_steps floor n v c u d row)

pub answered : (r : Result Stop AllocError) (settled : Result ℕ Refusal) (n : ℕ) → Ok n ≡ quantum_answer r settled → settled ≡ Ok n
answered (Ok stop) settled n e = sym e
answered (Err e) (Ok m) n f = cc
answered (Err e) (Err g) n f = cc

-- a quantum has its own steps, and perhaps one that the image takes
works_few : (quantum n : ℕ) (i j : RunnerView) (c : ClaimView) → c.steps ≡ 0 → Works quantum i c (Ok n) j → n ≤ quantum + 1
works_few quantum n i j c none (ran, d, settled, steps, settles, is) =
    let all : Settles i.image d (Ok n) j.image = subst (λ r. Settles i.image d r j.image) (answered ran settled n is) settles in
    omega (arith, none, ran_few floor_of quantum steps.0 c ran j.caches d steps.2, one_or_none (stands_before_act d), all.steps)

quantum_few : (quantum n : ℕ) (i j : RunnerView) (a : ActorId) (o : Result ClaimView Refusal) (k : ImageView) → ChecksOut i.image a o k
    → MatchResult o (λ c. Works quantum (record i { image = k }) c (Ok n) j) (λ e. (Ok n ≡ Err e) × (j ≡ record i { image = k })) → n ≤ quantum + 1
quantum_few quantum n i j a (Ok c) k out works =
    let none : c.steps ≡ 0 = ap (λ (x : ClaimView). x.steps) out.0.1.claim in
    works_few quantum n (record i { image = k }) j c none works
quantum_few quantum n i j a (Err e) k out refused = let never : Ok n ≡ Err e = refused.0 in cc

pub few_steps : (quantum n : ℕ) (i j : RunnerView) → NextAdvances quantum i (Ok n) j → n ≤ quantum + 1
few_steps quantum n i j t = quantum_few quantum n i j t.0 t.2.0 t.2.1 t.2.2 t.2.3

-- whatever run goes on from here, with so many quanta left, is a run from the start
pub record RunsOn (quantum quanta : ℕ) (i : RunnerView) (left : ℕ) (k : RunnerView) (q s : ℕ) : Type 0 where
  pub whole : (r : Reply) (j : RunnerView) → Runs quantum left k q s r j → Runs quantum quanta i 0 0 r j

one_left : (quanta q : ℕ) → q < quanta → quanta - q ≡ suc (quanta - (q + 1))
one_left quanta q h = omega arith

pub runs_more : (quantum quanta q s n : ℕ) (i k m : RunnerView) → RunsOn quantum quanta i (quanta - q) k q s → q < quanta → NextAdvances quantum k (Ok n) m → RunsOn quantum quanta i (quanta - (q + 1)) m (q + 1) (s + n)
runs_more quantum quanta q s n i k m on h takes = record { whole = λ r j rest. on.whole r j (rw (one_left quanta q h) (inr (Ok n, m, takes, rest))) }

pub runs_none : (quantum quanta q s : ℕ) (i k j : RunnerView) → RunsOn quantum quanta i (quanta - q) k q s → q < quanta → NoneReady k → j ≡ k → Runs quantum quanta i 0 0 (reply.Ran q s) j
runs_none quantum quanta q s i k j on h none e = on.whole (reply.Ran q s) j (rw (one_left quanta q h) (inl (none, refl, e)))

pub runs_stops : (quantum quanta q s : ℕ) (i k j : RunnerView) (e : Refusal) → RunsOn quantum quanta i (quanta - q) k q s → q < quanta → NextAdvances quantum k (Err e) j → Runs quantum quanta i 0 0 (reply.Refused e) j
runs_stops quantum quanta q s i k j e on h stops = on.whole (reply.Refused e) j (rw (one_left quanta q h) (inr (Err e, j, stops, (refl, refl))))

none_left : (quanta q : ℕ) → q ≡ quanta → quanta - q ≡ 0
none_left quanta q e = omega arith

pub runs_out : (quantum quanta q s : ℕ) (i k : RunnerView) → RunsOn quantum quanta i (quanta - q) k q s → q ≡ quanta → Runs quantum quanta i 0 0 (reply.Ran quanta s) k
runs_out quantum quanta q s i k on e = on.whole (reply.Ran quanta s) k (rw (none_left quanta q e) (rw e (refl, refl)))
