-- The failure by which the steps of a claim ended.
use Rattle.std.proofs.Common.{arith, refl, ◌≡◌, ℕ, zero, suc, ◌+◌, ◌<◌, List, Option, Some, None, Bool, true, false, ap, ap₂, sym, ◌∙◌, subst, length, ◌-◌, slice_get, option_and_then, option_map, if◌then◌else◌}
use Rattle.std.proofs.lemmas.Option.{slice_get-map}
use Rattle.st_classes.specs.declared.values.ActorId.{ActorId}
use Rattle.st_classes.specs.declared.faults.Fault.{Fault}
use Rattle.st_classes.specs.declared.edits.Edit.{Edit}
use Rattle.st_classes.specs.EditLists.{AreLawful, AllSound}
use Rattle.st_turn.specs.declared.body.Body.{Body}
use Rattle.st_turn.specs.Steps.{is_outer, own_steps, step}
use Rattle.st_turn.specs.Idle.{is_idle}
use Rattle.st_turn.specs.BodyFits.{FitsSome}
use Rattle.st_turn.specs.Reruns.{LeadsSomewhere}
use Rattle.st_turn.specs.declared.claim.ClaimParts.{ClaimParts}
use Rattle.st_turn.specs.Claims.{ClaimView, IsSound}
use Rattle.st_turn.specs.Surviving.{SurvivesAt}
use Rattle.st_turn.proofs.ClaimsLater.{one_fewer_survives}
use Rattle.st_turn.proofs.LastSteps.{before_last}
use Rattle.st_image.specs.declared.history.Item.{Item}
use Rattle.st_image.specs.declared.history.Item.TheVariants.{Ran}
use Rattle.st_image.specs.declared.settings.Settings.{Settings}
use Rattle.st_image.specs.Worlds.{Constants, World, WorldActor, change, change_at}
use Rattle.st_image.specs.Replay.{after_step, with_body}
use Rattle.st_image.specs.Images.{world_of}
use Rattle.st_image.specs.ActorViews.{ActorView, Shows, actor_view, view_after_steps}
use Rattle.st_image.specs.ActResults.{TakesOuter, constants_of, world_after}
use Rattle.st_image.specs.Commits.{stands_before_act, steps_of}
use Rattle.st_image.specs.Failures.{Failure, KeptFailures, kept_after, failure_at, failure_by, failure_in, fault_in, last_turn}
use Rattle.st_image.specs.Failed.{ended_by_fault, failure_told}
use Rattle.st_image.specs.WorldInvariant.{first_turn}
use Rattle.st_image.proofs.Changing.{get-change}
use Rattle.st_image.proofs.OwnSteps.{change_again, own_busy, own_world, step_world}
use Rattle.st_image.proofs.Committing.{MayCommit, steps_at}

-- ---- one step

-- what is kept of an actor tells its failure
told_of : (a : ActorId) (first step : ℕ) (b : WorldActor) (o : Option WorldActor) → failure_by a first step (Some b) o ≡ failure_told a step b.body (ended_by_fault first (option_map actor_view o))
told_of a first step b None = refl
told_of a first step b (Some d) = by_fault (fault_in d.body.phase)
  where
    by_fault : (o : Option Fault) → option_map (λ e. let f : Failure = record { actor = a; turn = last_turn first (length d.results); fault = e; step = step; body = b.body } in f) o ≡ failure_told a step b.body (option_map (λ e. (last_turn first (length d.results), e)) o)
    by_fault None = refl
    by_fault (Some e) = refl

-- the last of some steps of an actor
step_failed : (c : Constants) (base : World) (edits : List Edit) (new : List ActorView) (a : ActorId) (n taken : ℕ) (w u v : World) (b : WorldActor) → world_after c a n w ≡ Some u → slice_get u.actors a.0 ≡ Some b → after_step c a u ≡ Some v → Shows edits new v
    → failure_in c base taken w (Ran a (suc n)) ≡ failure_told a (taken + suc n) b.body (ended_by_fault (first_turn (slice_get base.actors a.0)) (slice_get new a.0))
step_failed c base edits new a n taken w u v b before at last shows =
    let first : ℕ = first_turn (slice_get base.actors a.0) in
    let now : slice_get new a.0 ≡ option_map actor_view (slice_get v.actors a.0) = ap (λ (xs : List ActorView). slice_get xs a.0) shows.actors_are ∙ slice_get-map actor_view v.actors a.0 in
    ap (option_and_then (failure_at c base a (taken + suc n))) before
    ∙ ap₂ (failure_by a first (taken + suc n)) at (ap (option_and_then (λ (x : World). slice_get x.actors a.0)) last)
    ∙ told_of a first (taken + suc n) b (slice_get v.actors a.0)
    ∙ ap (λ (o : Option ActorView). failure_told a (taken + suc n) b.body (ended_by_fault first o)) (sym now)

-- ---- a claim

same_body : (x y : Body) (o : Option Body) → o ≡ Some x → o ≡ Some y → x ≡ y
same_body x y o e f = cc

-- by whether the image took the last step
failed_by : (base : World) (names : List (List ℕ)) (edits : List Edit) (actors new : List ActorView) (h : List Item) (s : Settings) (c : ClaimView) (n taken : ℕ) (t : Bool) (body : Body)
    → AreLawful (world_of (constants_of names s.capacity) base h).edits → AllSound (world_of (constants_of names s.capacity) base h).edits
    → IsSound c.actor c.edits c.before c.after c.steps c.sends → SurvivesAt (world_of (constants_of names s.capacity) base h).edits c
    → suc n ≡ c.steps + (if is_outer (step (world_of (constants_of names s.capacity) base h).edits c.actor c.after) then 1 else 0)
    → MayCommit base names edits actors h s c
    → TakesOuter (constants_of names s.capacity) edits (change_at (view_after_steps c.after) c.actor.0 actors) new c.actor (change (with_body c.after) c.actor (world_of (constants_of names s.capacity) base h)) t
    → own_steps c.edits c.actor n c.before ≡ Some body
    → failure_in (constants_of names s.capacity) base taken (world_of (constants_of names s.capacity) base h) (Ran c.actor (suc n)) ≡ failure_told c.actor (taken + suc n) body (ended_by_fault (first_turn (slice_get base.actors c.actor.0)) (slice_get new c.actor.0))
failed_by base names edits actors new h s c n taken true body lawful sound claim survives count g o own =
    let cs : Constants = constants_of names s.capacity in
    let w : World = world_of cs base h in
    let next : is_outer (step w.edits c.actor c.after) ≡ true = o.0 (with_body c.after g.went.being) g.went.there in
    let steps : suc n ≡ c.steps + 1 = subst (λ (b : Bool). suc n ≡ c.steps + (if b then 1 else 0)) next count in
    let same : n ≡ c.steps = omega (arith, steps) in
    let after : body ≡ c.after = same_body body c.after (own_steps c.edits c.actor c.steps c.before) (ap (λ (k : ℕ). own_steps c.edits c.actor k c.before) (sym same) ∙ own) claim.taken in
    let before : world_after cs c.actor n w ≡ Some (change (with_body c.after) c.actor w) = ap (λ (k : ℕ). world_after cs c.actor k w) same ∙ g.went.taken in
    step_failed cs base edits new c.actor n taken w (change (with_body c.after) c.actor w) o.1.0 (with_body c.after g.went.being) before g.went.there o.1.1 o.1.2
    ∙ ap (λ (b : Body). failure_told c.actor (taken + suc n) b (ended_by_fault (first_turn (slice_get base.actors c.actor.0)) (slice_get new c.actor.0))) (sym after)
failed_by base names edits actors new h s c n taken false body lawful sound claim survives count g o own =
    let cs : Constants = constants_of names s.capacity in
    let w : World = world_of cs base h in
    let a : ActorId = c.actor in
    let next : is_outer (step w.edits c.actor c.after) ≡ false = o.0 (with_body c.after g.went.being) g.went.there in
    let all : suc n ≡ c.steps + 0 = subst (λ (b : Bool). suc n ≡ c.steps + (if b then 1 else 0)) next count in
    let steps : c.steps ≡ suc n = omega (arith, all) in
    let went : own_steps w.edits a (suc n) g.went.being.body ≡ Some c.after = subst (λ (k : ℕ). own_steps w.edits a k g.went.being.body ≡ Some c.after) steps g.went.own in
    let p = before_last w.edits a n g.went.being.body c.after went in
    let there : own_steps w.edits a n c.before ≡ Some p.0 = ap (own_steps w.edits a n) (sym g.before) ∙ p.1 in
    let is : body ≡ p.0 = same_body body p.0 (own_steps c.edits a n c.before) own (sym (one_fewer_survives w.edits c n lawful sound claim steps survives) ∙ there) in
    let u : World = change (with_body p.0) a w in
    let at : slice_get u.actors a.0 ≡ Some (with_body p.0 g.went.being) = get-change (with_body p.0) a.0 w.actors g.went.being g.went.at in
    let busy : is_idle p.0.phase ≡ false = own_busy w.edits a zero p.0 c.after (ap (option_and_then (own_steps w.edits a zero)) p.2) in
    let last : after_step cs a u ≡ Some (change (with_body c.after) a w) = step_world cs u a (with_body p.0 g.went.being) c.after at p.2 ∙ ap (λ (v : World). Some v) (change_again w a g.went.being p.0 c.after g.went.at busy) in
    let shows : Shows edits new (change (with_body c.after) a w) = subst (λ (x : List ActorView). Shows edits x (change (with_body c.after) a w)) (sym o.1) g.went.shown.shows in
    step_failed cs base edits new a n taken w u (change (with_body c.after) a w) (with_body p.0 g.went.being) (own_world cs a n w g.went.being p.0 g.went.at g.went.busy p.1) at last shows
    ∙ ap (λ (b : Body). failure_told a (taken + suc n) b (ended_by_fault (first_turn (slice_get base.actors a.0)) (slice_get new a.0))) (sym is)

-- the failure by which the steps of a commit ended, if they ended so
pub failed_taken : (base : World) (names : List (List ℕ)) (edits : List Edit) (actors new : List ActorView) (h : List Item) (s : Settings) (c : ClaimView) (m taken : ℕ) (t : Bool) (body : Body)
    → AreLawful (world_of (constants_of names s.capacity) base h).edits → AllSound (world_of (constants_of names s.capacity) base h).edits
    → IsSound c.actor c.edits c.before c.after c.steps c.sends → SurvivesAt (world_of (constants_of names s.capacity) base h).edits c
    → m ≡ steps_of c → 0 < m
    → MayCommit base names edits actors h s c
    → TakesOuter (constants_of names s.capacity) edits (change_at (view_after_steps c.after) c.actor.0 actors) new c.actor (change (with_body c.after) c.actor (world_of (constants_of names s.capacity) base h)) t
    → own_steps c.edits c.actor (m - 1) c.before ≡ Some body
    → failure_in (constants_of names s.capacity) base taken (world_of (constants_of names s.capacity) base h) (Ran c.actor m) ≡ failure_told c.actor (taken + m) body (ended_by_fault (first_turn (slice_get base.actors c.actor.0)) (slice_get new c.actor.0))
failed_taken base names edits actors new h s c m taken t body lawful sound claim survives count some g o own =
    let w : World = world_of (constants_of names s.capacity) base h in
    let one : m ≡ suc (m - 1) = omega (arith, some) in
    let steps : suc (m - 1) ≡ c.steps + (if is_outer (step w.edits c.actor c.after) then 1 else 0) = sym one ∙ count ∙ steps_at c w.edits g.same in
    subst (λ (k : ℕ). failure_in (constants_of names s.capacity) base taken w (Ran c.actor k) ≡ failure_told c.actor (taken + k) body (ended_by_fault (first_turn (slice_get base.actors c.actor.0)) (slice_get new c.actor.0))) (sym one) (failed_by base names edits actors new h s c (m - 1) taken t body lawful sound claim survives steps g o own)

-- the steps before the last of a commit lead somewhere
pub leads_before : (c : ClaimView) (m : ℕ) → IsSound c.actor c.edits c.before c.after c.steps c.sends → m ≡ steps_of c → 0 < m → LeadsSomewhere c.edits c.actor (m - 1) c.before
leads_before c m claim count some = by_act (stands_before_act c) count
  where
    by_act : (t : Bool) → m ≡ c.steps + (if t then 1 else 0) → LeadsSomewhere c.edits c.actor (m - 1) c.before
    by_act true e =
        let same : m - 1 ≡ c.steps = omega (arith, e) in
        (c.after, ap (λ (k : ℕ). own_steps c.edits c.actor k c.before) same ∙ claim.taken)
    by_act false e =
        let all : c.steps ≡ suc (m - 1) = omega (arith, e, some) in
        let p = before_last c.edits c.actor (m - 1) c.before c.after (subst (λ (k : ℕ). own_steps c.edits c.actor k c.before ≡ Some c.after) all claim.taken) in
        (p.0, p.1)

-- ---- the parts of a spent claim

-- the parts of a claim have its edits, its actor and its body before
pub record AreOf (p : ClaimParts) (c : ClaimView) : Type 0 where
  pub edits : p.token ≡ c.edits
  pub actor : p.actor ≡ c.actor
  pub before : p.before ≡ c.before

pub parts_fit : (p : ClaimParts) (c : ClaimView) → AreOf p c → FitsSome c.edits c.actor c.before → FitsSome p.token p.actor p.before
parts_fit p c s h =
    subst (λ (es : List Edit). FitsSome es p.actor p.before) (sym s.edits)
    (subst (λ (a : ActorId). FitsSome c.edits a p.before) (sym s.actor)
    (subst (λ (b : Body). FitsSome c.edits c.actor b) (sym s.before) h))

parts_lead : (p : ClaimParts) (c : ClaimView) (n : ℕ) → AreOf p c → own_steps p.token p.actor n p.before ≡ own_steps c.edits c.actor n c.before
parts_lead p c n s =
    ap (λ (es : List Edit). own_steps es p.actor n p.before) s.edits
    ∙ ap (λ (a : ActorId). own_steps c.edits a n p.before) s.actor
    ∙ ap (λ (b : Body). own_steps c.edits c.actor n b) s.before

pub parts_lead_somewhere : (p : ClaimParts) (c : ClaimView) (n : ℕ) → AreOf p c → LeadsSomewhere c.edits c.actor n c.before → LeadsSomewhere p.token p.actor n p.before
parts_lead_somewhere p c n s h = (h.0, parts_lead p c n s ∙ h.1)

-- what is kept with the failure that the parts tell
pub kept_of_parts : (p : ClaimParts) (c : ClaimView) (n step here : ℕ) (old new : KeptFailures) (ended told : Option (ℕ × Fault)) (body : Body) → AreOf p c → ((b : Body) → own_steps p.token p.actor n p.before ≡ Some b → new ≡ kept_after old (failure_told p.actor step b ended)) → own_steps c.edits c.actor n c.before ≡ Some body → step ≡ here → ended ≡ told
    → new ≡ kept_after old (failure_told c.actor here body told)
kept_of_parts p c n step here old new ended told body s h own same is =
    h body (parts_lead p c n s ∙ own)
    ∙ ap (λ (a : ActorId). kept_after old (failure_told a step body ended)) s.actor
    ∙ ap (λ (k : ℕ). kept_after old (failure_told c.actor k body ended)) same
    ∙ ap (λ (o : Option (ℕ × Fault)). kept_after old (failure_told c.actor here body o)) is
