-- Steps of an actor's own, as those of the world.
use Rattle.std.proofs.Common.{◌≡◌, ℕ, zero, suc, List, Some, true, false, refl, ap, sym, ◌∙◌, slice_get, slice_set, option_and_then}
use Rattle.st_classes.specs.declared.values.ActorId.{ActorId}
use Rattle.st_classes.specs.declared.edits.Edit.{Edit}
use Rattle.st_turn.specs.declared.body.Body.{Body}
use Rattle.st_turn.specs.declared.body.Outcome.{Outcome}
use Rattle.st_turn.specs.declared.body.Phase.{Phase}
use Rattle.st_turn.specs.declared.body.Phase.TheVariants.{Fresh, Start, Frames, Done}
use Rattle.st_turn.specs.Steps.{Step, next as leads, ended, is_outer, outer, body_after, own_steps, step}
use Rattle.st_turn.specs.Idle.{is_idle}
use Rattle.st_image.specs.Worlds.{Constants, World, WorldActor, change, change_at}
use Rattle.st_image.specs.Replay.{after_step, after_step_of, with_body, with_result}
use Rattle.st_image.specs.ActResults.{world_after}
use Rattle.st_image.proofs.Lists.{set_at_same, set_twice}
use Rattle.st_image.proofs.Changing.{change_here, get-change}
use Rattle.st_image.proofs.Stepping.{bound}
use Rattle.st_image.proofs.Lasting.{next_busy, outer_busy}

-- ---- a body, one step after the other

pub leads_by : (s : Step) (b : Body) → body_after s ≡ Some b → s ≡ leads b
leads_by (leads x) b e = let same : x ≡ b = cc in ap leads same
leads_by ended b e = cc
leads_by (outer act) b e = cc

-- a body that takes a step is in a turn
pub own_busy : (edits : List Edit) (a : ActorId) (n : ℕ) (b last : Body) → own_steps edits a (suc n) b ≡ Some last → is_idle b.phase ≡ false
own_busy edits a n b last e =
    let p = bound (own_steps edits a n) (body_after (step edits a b)) last e in
    next_busy edits a b.objects b.phase p.0 (leads_by (step edits a b) p.0 p.1)

pub busy_results : (p : Phase) (rs : List Outcome) → is_idle p ≡ false → with_result p rs ≡ rs
busy_results Fresh rs h = refl
busy_results (Start s args) rs h = refl
busy_results (Frames fs) rs h = refl
busy_results (Done outcome) rs h = cc

pub with_same : (b : WorldActor) → is_idle b.body.phase ≡ false → with_body b.body b ≡ b
with_same b h = ap (λ (rs : List Outcome). let c : WorldActor = record b { results = rs } in c) (busy_results b.body.phase b.results h)

pub with_twice : (body last : Body) (b : WorldActor) → is_idle body.phase ≡ false → with_body last (with_body body b) ≡ with_body last b
with_twice body last b h = ap (λ (rs : List Outcome). let c : WorldActor = record b { body = last; results = with_result last.phase rs } in c) (busy_results body.phase b.results h)

-- ---- the world

pub same_change : (w : World) (a : ActorId) (b : WorldActor) → slice_get w.actors a.0 ≡ Some b → is_idle b.body.phase ≡ false → change (with_body b.body) a w ≡ w
same_change w a b at h = ap (λ (xs : List WorldActor). let v : World = record w { actors = xs } in v) (change_here (with_body b.body) a.0 w.actors b at ∙ set_at_same w.actors a.0 (with_body b.body b) (at ∙ ap Some (sym (with_same b h))))

pub change_again : (w : World) (a : ActorId) (b : WorldActor) (body last : Body) → slice_get w.actors a.0 ≡ Some b → is_idle body.phase ≡ false → change (with_body last) a (change (with_body body) a w) ≡ change (with_body last) a w
change_again w a b body last at h =
    let at1 : slice_get (change_at (with_body body) a.0 w.actors) a.0 ≡ Some (with_body body b) = get-change (with_body body) a.0 w.actors b at in
    ap (λ (xs : List WorldActor). let v : World = record w { actors = xs } in v) (change_here (with_body last) a.0 (change_at (with_body body) a.0 w.actors) (with_body body b) at1 ∙ ap (λ (ys : List WorldActor). slice_set ys a.0 (with_body last (with_body body b))) (change_here (with_body body) a.0 w.actors b at) ∙ set_twice w.actors a.0 (with_body body b) (with_body last (with_body body b)) ∙ ap (slice_set w.actors a.0) (with_twice body last b h) ∙ sym (change_here (with_body last) a.0 w.actors b at))

pub some_body : (b c : Body) → Some b ≡ Some c → b ≡ c
some_body b c e = cc

pub step_world : (c : Constants) (w : World) (a : ActorId) (b : WorldActor) (body : Body) → slice_get w.actors a.0 ≡ Some b → body_after (step w.edits a b.body) ≡ Some body → after_step c a w ≡ Some (change (with_body body) a w)
step_world c w a b body at e = ap (option_and_then (λ (y : WorldActor). after_step_of c a w (step w.edits a y.body))) at ∙ ap (after_step_of c a w) (leads_by (step w.edits a b.body) body e)

-- so many steps of the actor's own
pub own_world : (c : Constants) (a : ActorId) (n : ℕ) (w : World) (b : WorldActor) (last : Body) → slice_get w.actors a.0 ≡ Some b → is_idle b.body.phase ≡ false → own_steps w.edits a n b.body ≡ Some last → world_after c a n w ≡ Some (change (with_body last) a w)
own_world c a zero w b last at busy e = ap Some (sym (same_change w a b at busy)) ∙ ap (λ (x : Body). Some (change (with_body x) a w)) (some_body b.body last e)
own_world c a (suc zero) w b last at busy e =
    let p = bound (own_steps w.edits a zero) (body_after (step w.edits a b.body)) last e in
    ap (option_and_then (world_after c a zero)) (step_world c w a b p.0 at p.1) ∙ ap (λ (x : Body). Some (change (with_body x) a w)) (some_body p.0 last p.2)
own_world c a (suc (suc n)) w b last at busy e =
    let p = bound (own_steps w.edits a (suc n)) (body_after (step w.edits a b.body)) last e in
    let v : World = change (with_body p.0) a w in
    let busy' : is_idle p.0.phase ≡ false = own_busy w.edits a n p.0 last p.2 in
    let there : slice_get v.actors a.0 ≡ Some (with_body p.0 b) = get-change (with_body p.0) a.0 w.actors b at in
    ap (option_and_then (world_after c a (suc n))) (step_world c w a b p.0 at p.1) ∙ own_world c a (suc n) v (with_body p.0 b) last there busy' p.2 ∙ ap Some (change_again w a b p.0 last at busy')

pub outer_goes_on : (edits : List Edit) (a : ActorId) (b : Body) (s : Step) → step edits a b ≡ s → is_outer s ≡ true → is_idle b.phase ≡ false
outer_goes_on edits a b (leads x) e h = cc
outer_goes_on edits a b ended e h = cc
outer_goes_on edits a b (outer act) e h = outer_busy edits a b.objects b.phase act e
