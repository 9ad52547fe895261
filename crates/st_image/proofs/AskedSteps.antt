-- What the steps of an actor ask for, as those of its body.
use Rattle.std.proofs.Common.{◌≡◌, ℕ, zero, suc, ◌+◌, List, [], ◌++◌, Option, Some, None, false, refl, ap, sym, ◌∙◌, slice_get, option_and_then, zero-add, suc-add, append_assoc, append-nil}
use Rattle.std.specs.Option.{option_map, option_to_list}
use Rattle.st_classes.specs.declared.values.ActorId.{ActorId}
use Rattle.st_classes.specs.declared.edits.Edit.{Edit}
use Rattle.st_turn.specs.declared.body.Body.{Body}
use Rattle.st_turn.specs.Steps.{Asked, Step, next as leads, ended, outer, asked, body_after, own_steps, step}
use Rattle.st_turn.specs.Claims.{asked_from, own_asked}
use Rattle.st_turn.specs.Idle.{is_idle}
use Rattle.st_image.specs.Worlds.{Constants, World, WorldActor, change}
use Rattle.st_image.specs.Replay.{Trail, after_step, after_step_of, asked_at, trail_after, trail_step, with_body}
use Rattle.st_image.specs.ActResults.{world_after}
use Rattle.st_image.proofs.Changing.{get-change}
use Rattle.st_image.proofs.Stepping.{bound}
use Rattle.st_image.proofs.OwnSteps.{own_world}

-- ---- trails, one after the other

trail_each : (o : Option Trail) (f g : Trail → Option Trail) → ((t : Trail) → f t ≡ g t) → option_and_then f o ≡ option_and_then g o
trail_each None f g h = refl
trail_each (Some t) f g h = h t

trail_assoc : (o : Option Trail) (f g : Trail → Option Trail) → option_and_then g (option_and_then f o) ≡ option_and_then (λ t. option_and_then g (f t)) o
trail_assoc None f g = refl
trail_assoc (Some t) f g = refl

pub trail_then : (c : Constants) (a : ActorId) (n m : ℕ) (t : Trail) → option_and_then (trail_after c a m) (trail_after c a n t) ≡ trail_after c a (n + m) t
trail_then c a zero m t = ap (λ (k : ℕ). trail_after c a k t) (sym (zero-add m))
trail_then c a (suc n) m t =
    trail_assoc (trail_step c a t) (trail_after c a n) (trail_after c a m)
    ∙ trail_each (trail_step c a t) (λ u. option_and_then (trail_after c a m) (trail_after c a n u)) (trail_after c a (n + m)) (trail_then c a n m)
    ∙ ap (λ (k : ℕ). trail_after c a k t) (sym (suc-add n m))

-- ---- one step

led : (s : Step) (b : Body) → body_after s ≡ Some b → s ≡ leads b
led (leads x) b e = let same : x ≡ b = cc in ap leads same
led ended b e = cc
led (outer act) b e = cc

-- what is asked for by an actor that is there
asked_there : (w : World) (a : ActorId) (b : WorldActor) → slice_get w.actors a.0 ≡ Some b → asked_at w.edits (slice_get w.actors a.0) ≡ asked w.edits b.body
asked_there w a b at = ap (λ (o : Option WorldActor). asked_at w.edits o) at

-- a step of the world, as one of a trail
pub trail_stepped : (c : Constants) (a : ActorId) (t : Trail) (b : WorldActor) (v : World) → slice_get t.world.actors a.0 ≡ Some b → after_step c a t.world ≡ Some v → trail_step c a t ≡ Some (record { world = v; asked = t.asked ++ option_to_list (asked t.world.edits b.body) })
trail_stepped c a t b v at e =
    ap (λ (o : Option World). option_map (λ w. let u : Trail = record { world = w; asked = t.asked ++ option_to_list (asked_at t.world.edits (slice_get t.world.actors a.0)) } in u) o) e
    ∙ ap (λ (o : Option Asked). Some (let u : Trail = record { world = v; asked = t.asked ++ option_to_list o } in u)) (asked_there t.world a b at)

own_step : (c : Constants) (a : ActorId) (w : World) (b : WorldActor) (body : Body) → slice_get w.actors a.0 ≡ Some b → body_after (step w.edits a b.body) ≡ Some body → after_step c a w ≡ Some (change (with_body body) a w)
own_step c a w b body at e = ap (option_and_then (λ (y : WorldActor). after_step_of c a w (step w.edits a y.body))) at ∙ ap (after_step_of c a w) (led (step w.edits a b.body) body e)

-- ---- so many steps of the actor's own

-- a world with what was asked on the way to it
abbrev trail_with : List Asked → World → Trail
trail_with qs w = record { world = w; asked = qs }

trail_own : (c : Constants) (a : ActorId) (n : ℕ) (t : Trail) (b : WorldActor) (last : Body) → slice_get t.world.actors a.0 ≡ Some b → own_steps t.world.edits a n b.body ≡ Some last → trail_after c a n t ≡ option_map (trail_with (t.asked ++ own_asked t.world.edits a n b.body)) (world_after c a n t.world)
trail_own c a zero t b last at e = ap (λ (qs : List Asked). Some (trail_with qs t.world)) (sym (append-nil t.asked))
trail_own c a (suc n) t b last at e =
    let edits : List Edit = t.world.edits in
    let p = bound (own_steps edits a n) (body_after (step edits a b.body)) last e in
    let v : World = change (with_body p.0) a t.world in
    let first : List Asked = option_to_list (asked edits b.body) in
    let there : slice_get v.actors a.0 ≡ Some (with_body p.0 b) = get-change (with_body p.0) a.0 t.world.actors b at in
    let stepped : after_step c a t.world ≡ Some v = own_step c a t.world b p.0 at p.1 in
    ap (option_and_then (trail_after c a n)) (trail_stepped c a t b v at stepped)
    ∙ trail_own c a n (trail_with (t.asked ++ first) v) (with_body p.0 b) last there p.2
    ∙ ap (λ (qs : List Asked). option_map (trail_with qs) (world_after c a n v)) (append_assoc t.asked first (own_asked edits a n p.0) ∙ ap (λ (o : Option Body). t.asked ++ (first ++ asked_from (own_asked edits a n) o)) (sym p.1))
    ∙ ap (λ (o : Option World). option_map (trail_with (t.asked ++ own_asked edits a (suc n) b.body)) (option_and_then (world_after c a n) o)) (sym stepped)

-- steps of an actor's own, as those of the world, with what they ask for
pub asked_own : (c : Constants) (a : ActorId) (n : ℕ) (w : World) (b : WorldActor) (last : Body) → slice_get w.actors a.0 ≡ Some b → is_idle b.body.phase ≡ false → own_steps w.edits a n b.body ≡ Some last → trail_after c a n (record { world = w; asked = [] }) ≡ Some (record { world = change (with_body last) a w; asked = own_asked w.edits a n b.body })
asked_own c a n w b last at busy e =
    trail_own c a n (trail_with [] w) b last at e
    ∙ ap (λ (o : Option World). option_map (trail_with (own_asked w.edits a n b.body)) o) (own_world c a n w b last at busy e)

-- the same with the image's step behind them
pub asked_outer : (c : Constants) (a : ActorId) (n : ℕ) (w v : World) (b : WorldActor) (last : Body) → slice_get w.actors a.0 ≡ Some b → is_idle b.body.phase ≡ false → own_steps w.edits a n b.body ≡ Some last → after_step c a (change (with_body last) a w) ≡ Some v → trail_after c a (n + 1) (record { world = w; asked = [] }) ≡ Some (record { world = v; asked = own_asked w.edits a n b.body ++ option_to_list (asked w.edits last) })
asked_outer c a n w v b last at busy e f =
    let qs : List Asked = own_asked w.edits a n b.body in
    let there : slice_get (change (with_body last) a w).actors a.0 ≡ Some (with_body last b) = get-change (with_body last) a.0 w.actors b at in
    sym (trail_then c a n 1 (trail_with [] w))
    ∙ ap (option_and_then (trail_after c a 1)) (asked_own c a n w b last at busy e)
    ∙ ap (option_and_then (trail_after c a zero)) (trail_stepped c a (trail_with qs (change (with_body last) a w)) (with_body last b) v there f)
