-- How often bodies were changed, by the steps that were taken: each turn begins once, and takes a step before it ends.
use Rattle.std.proofs.Common.{arith, ◌≡◌, ℕ, ◌+◌, ◌*◌, ◌<◌, ◌≤◌, ◌==◌, [], ◌∷◌, List, Option, Some, None, Bool, true, false, cond, refl, ap, sym, ◌∙◌, subst, slice_get}
use Rattle.std.specs.Prelude.{nat_lt}
use Rattle.std.proofs.lemmas.Bool.Decides.{nat_tests}
use Rattle.st_classes.specs.declared.values.ActorId.{ActorId}
use Rattle.st_turn.specs.Idle.{is_idle}
use Rattle.st_mailbox.specs.declared.messages.Message.{Message}
use Rattle.st_image.specs.declared.counts.Counts.{Counts}
use Rattle.st_image.specs.declared.history.Item.{Item}
use Rattle.st_image.specs.declared.history.Item.TheVariants.{Edited, Created, Posted, Closed, Begun, Ran}
use Rattle.st_image.specs.Worlds.{Constants, World, WorldActor, change, pending}
use Rattle.st_image.specs.Replay.{next, next_message, replay, with_begun}
use Rattle.st_image.specs.Counts.{ran_of, weigh}
use Rattle.st_image.specs.Changes.{change_count, changes_body, changes_in}
use Rattle.st_image.specs.EarlierCounts.{counted_earlier}
use Rattle.st_image.specs.ImageInvariant.{FitsBase, turns_open}
use Rattle.st_image.proofs.BodyChanges.{changes_append, stayed_next}
use Rattle.st_image.proofs.Changing.{get-change}
use Rattle.st_image.proofs.Stepping.{bound, cond_some, mapped, ran_after}

-- nothing was counted of bodies
pub fits_loaded : (counts : Counts) (base : World) → FitsBase (counted_earlier counts) base
fits_loaded counts base = record {
  edits = omega arith;
  changes = λ a. let none : change_count [] a ≡ 0 = refl in omega (arith, none);
}

one_turn : (b : Bool) → cond b 0 1 ≤ 1
one_turn true = omega arith
one_turn false = omega arith

-- an actor is in one turn at most
pub open_once : (o : Option WorldActor) → turns_open o ≤ 1
open_once None = omega arith
open_once (Some b) = one_turn (is_idle b.body.phase)

same_open : (b d : WorldActor) → d.body ≡ b.body → turns_open (Some d) ≡ turns_open (Some b)
same_open b d e = ap (λ x. cond (is_idle x.phase) 0 1) e

same_number : (a b : ℕ) → (a == b) ≡ true → a ≡ b
same_number a b e = grind (arith, nat_tests)

-- an idle actor that begins a message is in a turn
begun_open : (w v : World) (k : ActorId) (a : ℕ) (o : Option WorldActor) (m : Message) → k.0 ≡ a → slice_get w.actors k.0 ≡ o → next_message o ≡ Some m → change (with_begun m) k w ≡ v → (turns_open (slice_get w.actors a) ≡ 0) × (turns_open (slice_get v.actors a) ≡ 1)
begun_open w v k a None m same at h e = cc
begun_open w v k a (Some b) m same at h e =
    let idle : is_idle b.body.phase ≡ true = (cond_some (is_idle b.body.phase) (slice_get (pending b) 0) m h).0 in
    let was : turns_open (slice_get w.actors k.0) ≡ 0 = ap turns_open at ∙ ap (λ (t : Bool). cond t 0 1) idle in
    let now : slice_get v.actors k.0 ≡ Some (with_begun m b) = subst (λ (x : World). slice_get x.actors k.0 ≡ Some (with_begun m b)) e (get-change (with_begun m) k.0 w.actors b at) in
    let is : turns_open (slice_get v.actors k.0) ≡ 1 = ap turns_open now in
    subst (λ (n : ℕ). (turns_open (slice_get w.actors n) ≡ 0) × (turns_open (slice_get v.actors n) ≡ 1)) same (was, is)

-- an item that leaves a body leaves its turn
left_open : (o : Option WorldActor) (w v : World) (a : ℕ) → slice_get w.actors a ≡ o → ((b : WorldActor) → slice_get w.actors a ≡ Some b → (d : WorldActor) × (slice_get v.actors a ≡ Some d) × (d.body ≡ b.body)) → turns_open (slice_get w.actors a) ≤ turns_open (slice_get v.actors a)
left_open None w v a at stays = let none : turns_open (slice_get w.actors a) ≡ 0 = ap turns_open at in omega (arith, none)
left_open (Some b) w v a at stays =
    let d = stays b at in
    let same : turns_open (slice_get v.actors a) ≡ turns_open (slice_get w.actors a) = ap turns_open d.1 ∙ same_open b d.0 d.2 ∙ sym (ap turns_open at) in
    omega (arith, same)

-- one item
changed_by : (a : ℕ) (c : Constants) (w v : World) (i : Item) (t : Bool) → changes_body a i ≡ t → next c w i ≡ Some v → cond t 1 0 + turns_open (slice_get w.actors a) ≤ 2 * ran_of i + turns_open (slice_get v.actors a)
changed_by a c w v i false e h = let less = left_open (slice_get w.actors a) w v a refl (stayed_next a c w v i h e) in omega (arith, less)
changed_by a c w v (Edited x) true e h = cc
changed_by a c w v (Created x) true e h = cc
changed_by a c w v (Posted k m) true e h = cc
changed_by a c w v (Closed k) true e h = cc
changed_by a c w v (Begun k) true e h =
    let p = mapped (λ m. change (with_begun m) k w) (next_message (slice_get w.actors k.0)) v h in
    let b = begun_open w v k a (slice_get w.actors k.0) p.0 (same_number k.0 a e) refl p.1 p.2 in
    omega (arith, b.0, b.1)
changed_by a c w v (Ran k n) true e h =
    let some : nat_lt 0 n ≡ true = (cond_some (nat_lt 0 n) _ v (sym (ran_after c w k n) ∙ h)).0 in
    let more : 0 < n = some_steps n some in
    omega (arith, more, open_once (slice_get w.actors a))
  where
    some_steps : (n : ℕ) → nat_lt 0 n ≡ true → 0 < n
    some_steps n s = grind (arith, nat_tests)

-- a history
pub changes_bounded : (a : ℕ) (c : Constants) (w v : World) (is : List Item) → replay c w is ≡ Some v → changes_in is a + turns_open (slice_get w.actors a) ≤ 2 * weigh ran_of is + turns_open (slice_get v.actors a)
changes_bounded a c w v [] e =
    let same : w ≡ v = cc in
    let turns : turns_open (slice_get w.actors a) ≡ turns_open (slice_get v.actors a) = ap (λ (x : World). turns_open (slice_get x.actors a)) same in
    omega (arith, turns)
changes_bounded a c w v (i ∷ is) e =
    let p = bound (λ u. replay c u is) (next c w i) v e in
    let first = changed_by a c w p.0 i (changes_body a i) refl p.1 in
    let rest = changes_bounded a c p.0 v is p.2 in
    let sum : changes_in (i ∷ is) a ≡ changes_in (i ∷ []) a + changes_in is a = changes_append (i ∷ []) is a in
    let one : changes_in (i ∷ []) a ≡ 0 + cond (changes_body a i) 1 0 = refl in
    omega (arith, first, rest, sum, one)

-- with what was counted before the base
pub changes_in_all : (a : ℕ) (c : Constants) (base w : World) (h : List Item) (before steps earlier : ℕ) → earlier ≤ 2 * before + turns_open (slice_get base.actors a) → before + weigh ran_of h ≡ steps → replay c base h ≡ Some w → earlier + changes_in h a ≤ 2 * steps + turns_open (slice_get w.actors a)
changes_in_all a c base w h before steps earlier first sum e = let more = changes_bounded a c base w h e in omega (arith, first, sum, more)
