-- The steps of an actor, one after the other, without what they ask for.
use Rattle.std.proofs.Common.{◌≡◌, ℕ, zero, suc, ◌+◌, [], ◌++◌, List, Option, Some, None, Bool, true, false, cond, refl, ap, sym, ◌∙◌, option_and_then, zero-add, suc-add}
use Rattle.std.specs.Option.{option_map, option_to_list}
use Rattle.std.specs.Prelude.{nat_lt, slice_get}
use Rattle.st_classes.specs.declared.values.ActorId.{ActorId}
use Rattle.st_turn.specs.Steps.{Asked}
use Rattle.st_image.specs.Worlds.{Constants, World}
use Rattle.st_image.specs.Replay.{Trail, asked_at, after_run, after_step, trail_after}
use Rattle.st_image.specs.ActResults.{world_after}

-- what a chain of two that leads somewhere goes through
pub bound : {X Y : Type 0} (f : X → Option Y) (o : Option X) (y : Y) → option_and_then f o ≡ Some y → (x : X) × (o ≡ Some x) × (f x ≡ Some y)
bound f None y e = cc
bound f (Some x) y e = (x, refl, e)

-- what a mapped option that is there comes from
pub mapped : {X Y : Type 0} (f : X → Y) (o : Option X) (y : Y) → option_map f o ≡ Some y → (x : X) × (o ≡ Some x) × (f x ≡ y)
mapped f None y e = cc
mapped f (Some x) y e = (x, refl, cc)

pub cond_some : {X : Type 0} (b : Bool) (o : Option X) (x : X) → cond b o None ≡ Some x → (b ≡ true) × (o ≡ Some x)
cond_some true o x e = (refl, e)
cond_some false o x e = cc

after_by : (c : Constants) (a : ActorId) (n : ℕ) (asked : List Asked) → ((t : Trail) → option_map (λ (u : Trail). u.world) (trail_after c a n t) ≡ world_after c a n t.world) → (o : Option World) → option_map (λ (u : Trail). u.world) (option_and_then (trail_after c a n) (option_map (λ w. let t : Trail = record { world = w; asked = asked } in t) o)) ≡ option_and_then (world_after c a n) o
after_by c a n asked h None = refl
after_by c a n asked h (Some w) = h (record { world = w; asked = asked })

-- the worlds of a trail
pub steps_after : (c : Constants) (a : ActorId) (n : ℕ) (t : Trail) → option_map (λ (u : Trail). u.world) (trail_after c a n t) ≡ world_after c a n t.world
steps_after c a zero t = refl
steps_after c a (suc n) t = after_by c a n (t.asked ++ option_to_list (asked_at t.world.edits (slice_get t.world.actors a.0))) (steps_after c a n) (after_step c a t.world)

pub ran_after : (c : Constants) (w : World) (a : ActorId) (n : ℕ) → after_run c w a n ≡ cond (nat_lt 0 n) (world_after c a n w) None
ran_after c w a n = ap (λ (o : Option World). cond (nat_lt 0 n) o None) (steps_after c a n (record { world = w; asked = [] }))

then_after : (c : Constants) (a : ActorId) (n m : ℕ) (o : Option World) → ((v : World) → option_and_then (world_after c a m) (world_after c a n v) ≡ world_after c a (n + m) v) → option_and_then (world_after c a m) (option_and_then (world_after c a n) o) ≡ option_and_then (world_after c a (n + m)) o
then_after c a n m None h = refl
then_after c a n m (Some v) h = h v

pub after_then : (c : Constants) (a : ActorId) (n m : ℕ) (w : World) → option_and_then (world_after c a m) (world_after c a n w) ≡ world_after c a (n + m) w
after_then c a zero m w = ap (λ (k : ℕ). world_after c a k w) (sym (zero-add m))
after_then c a (suc n) m w = then_after c a n m (after_step c a w) (after_then c a n m) ∙ ap (λ (k : ℕ). world_after c a k w) (sym (suc-add n m))
