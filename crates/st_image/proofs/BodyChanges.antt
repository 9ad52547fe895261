-- The bodies of actors: only the beginning of their messages and their own steps change them.
use Rattle.std.proofs.Common.{arith, ◌≡◌, ◌+◌, ◌==◌, ◌++◌, ℕ, zero, suc, [], ◌∷◌, List, Option, Some, None, Ok, refl, ap, sym, ◌∙◌, subst, length, slice_get, Bool, true, false, cond, inl, inr}
use Rattle.std.specs.Prelude.{not, nat_le, nat_lt}
use Rattle.std.specs.List.{list_any}
use Rattle.std.specs.Option.{option_map}
use Rattle.std.proofs.lemmas.Bool.Decides.{nat_tests}
use Rattle.std.proofs.lemmas.List.Sums.{sum_by-append}
use Rattle.st_classes.specs.declared.values.ActorId.{ActorId}
use Rattle.st_classes.specs.declared.values.ClassId.{ClassId}
use Rattle.st_classes.specs.declared.values.Selector.{Selector}
use Rattle.st_classes.specs.declared.values.Value.{Value}
use Rattle.st_classes.specs.declared.values.Value.TheVariants.{Int, Bool as Boolean, Nil, Sym, Class, Actor as Reference, Local}
use Rattle.st_classes.specs.declared.faults.Fault.TheVariants.{BadArgument, LocalArgument, TooManyActors}
use Rattle.st_classes.specs.EditRules.{is_value_class}
use Rattle.st_classes.specs.MethodSuits.{arity_at, is_number}
use Rattle.st_classes.proofs.LawLists.{slice_get_kept}
use Rattle.st_turn.specs.declared.acts.Act.{Act}
use Rattle.st_turn.specs.declared.acts.Act.TheVariants.{Post, Close, Create}
use Rattle.st_turn.specs.Steps.{Step, next as leads, ended, outer, reply_body, step}
use Rattle.st_mailbox.specs.declared.messages.Message.{Message}
use Rattle.st_mailbox.specs.declared.messages.Sender.{Sender}
use Rattle.st_mailbox.specs.declared.messages.Sender.TheVariants.{Client, Actor}
use Rattle.st_image.specs.declared.history.Item.{Item}
use Rattle.st_image.specs.declared.history.Item.TheVariants.{Edited, Created, Posted, Closed, Begun, Ran}
use Rattle.st_image.specs.Worlds.{Constants, World, WorldActor, change}
use Rattle.st_image.specs.Replay.{ActResult, after_act, after_close, after_post, after_post_by, after_step, after_step_of, act_result, attempted_act, create_result, failed_act, is_local, new_world_actor, next, next_message, post_result, replay, with_accepted, with_begun, with_body, with_last, with_new}
use Rattle.st_image.specs.ActResults.{world_after}
use Rattle.st_image.specs.Changes.{changes_body, changes_in}
use Rattle.st_image.proofs.Changing.{get-change-any}
use Rattle.st_image.proofs.Deliveries.{let_through}
use Rattle.st_image.proofs.Stepping.{bound, mapped, cond_some, ran_after}

-- an actor that is there is there still, with the same body
abbrev pub HasStayed : ℕ → World → World → Type 0
HasStayed a w v = (b : WorldActor) → slice_get w.actors a ≡ Some b → (d : WorldActor) × (slice_get v.actors a ≡ Some d) × (d.body ≡ b.body)

stayed : (a : ℕ) (w : World) → HasStayed a w w
stayed a w = λ b at. (b, at, refl)

stayed_then : (a : ℕ) (w v u : World) → HasStayed a w v → HasStayed a v u → HasStayed a w u
stayed_then a w v u f g = λ b at. let p = f b at in let q = g p.0 p.1 in (q.0, q.1, q.2 ∙ p.2)

-- what has the same actors
stayed_by : (a : ℕ) (w v : World) → v.actors ≡ w.actors → HasStayed a w v
stayed_by a w v e = λ b at. (b, ap (λ (xs : List WorldActor). slice_get xs a) e ∙ at, refl)

-- a change that leaves the body
stayed_change : (a : ℕ) (f : WorldActor → WorldActor) (k : ActorId) (w : World) → ((b : WorldActor) → (f b).body ≡ b.body) → HasStayed a w (change f k w)
stayed_change a f k w h = λ b at. elim (get-change-any f k.0 w.actors a b at) [
  | inl there ↦ (b, there, refl)
  | inr s ↦ (f b, s.1, h b)
]

-- a change of another
stayed_other : (a : ℕ) (f : WorldActor → WorldActor) (k : ActorId) (w : World) → (k.0 == a) ≡ false → HasStayed a w (change f k w)
stayed_other a f k w n = λ b at. elim (get-change-any f k.0 w.actors a b at) [
  | inl there ↦ (b, there, refl)
  | inr s ↦ absurd (let same : a ≡ k.0 = s.0 in grind (arith, nat_tests))
]

stayed_new : (a : ℕ) (c : Constants) (class : ClassId) (w : World) → HasStayed a w (with_new c class w)
stayed_new a c class w = λ b at. (b, slice_get_kept w.actors (new_world_actor w.edits class c.capacity ∷ []) a b at, refl)

stayed_last : (a : ℕ) (s : Sender) (n : ℕ) (w : World) → HasStayed a w (with_last s n w)
stayed_last a (Client s) n w = stayed_by a w (with_last (Client s) n w) refl
stayed_last a (Actor k) n w = stayed_change a (λ b. record b { last = n }) k w (λ b. refl)

stayed_posted : (a : ℕ) (c : Constants) (w v : World) (k : ActorId) (m : Message) → after_post c w k m ≡ Some v → HasStayed a w v
stayed_posted a c w v k m e =
    let received = change (with_accepted m) k w in
    subst (HasStayed a w) (let_through _ _ v e).1 (stayed_then a w received (with_last m.sender m.seq received) (stayed_change a (with_accepted m) k w (λ b. refl)) (stayed_last a m.sender m.seq received))

stayed_closed : (a : ℕ) (w v : World) (k : ActorId) → after_close w k ≡ Some v → HasStayed a w v
stayed_closed a w v k e = subst (HasStayed a w) (let_through _ _ v e).1 (stayed_change a (λ b. record b { is_open = false }) k w (λ b. refl))

-- ---- acts

stayed_tried : (a : ℕ) (w : World) (o : Option World) → ((v : World) → o ≡ Some v → HasStayed a w v) → HasStayed a w (attempted_act w o).world
stayed_tried a w None f = stayed a w
stayed_tried a w (Some v) f = f v refl

stayed_either : (a : ℕ) (w : World) (b : Bool) (p q : ActResult) → HasStayed a w p.world → HasStayed a w q.world → HasStayed a w (cond b p q).world
stayed_either a w true p q h k = h
stayed_either a w false p q h k = k

stayed_posted_by : (a : ℕ) (c : Constants) (to : ActorId) (s : Selector) (args : List Value) (k : ActorId) (w v : World) (o : Option WorldActor) → after_post_by c to s args k w o ≡ Some v → HasStayed a w v
stayed_posted_by a c to s args k w v None e = cc
stayed_posted_by a c to s args k w v (Some b) e = stayed_posted a c w v to _ (cond_some _ _ v e).1

stayed_post : (a : ℕ) (c : Constants) (to : ActorId) (s : Selector) (args : List Value) (k : ActorId) (w : World) → HasStayed a w (post_result c to s args k w).world
stayed_post a c to s args k w =
    let o : Option World = after_post_by c to s args k w (slice_get w.actors k.0) in
    stayed_either a w (not (is_number (arity_at c.names s) (length args))) (failed_act w BadArgument) (cond (list_any is_local args) (failed_act w LocalArgument) (attempted_act w o)) (stayed a w)
    (stayed_either a w (list_any is_local args) (failed_act w LocalArgument) (attempted_act w o) (stayed a w)
    (stayed_tried a w o (λ v e. stayed_posted_by a c to s args k w v (slice_get w.actors k.0) e)))

stayed_create : (a : ℕ) (c : Constants) (class : ClassId) (w : World) → HasStayed a w (create_result c class w).world
stayed_create a c class w =
    let made : ActResult = record { world = with_new c class w; answer = Ok (Reference (record { 0 = length w.actors })) } in
    stayed_either a w (is_value_class class) (failed_act w BadArgument) (cond (nat_le 65536 (length w.actors)) (failed_act w TooManyActors) made) (stayed a w)
    (stayed_either a w (nat_le 65536 (length w.actors)) (failed_act w TooManyActors) made (stayed a w) (stayed_new a c class w))

stayed_done : (a : ℕ) (c : Constants) (k : ActorId) (w : World) (act : Act) → HasStayed a w (act_result c k w act).world
stayed_done a c k w (Post to (Sym s ∷ args)) = stayed_post a c to s args k w
stayed_done a c k w (Post to []) = stayed a w
stayed_done a c k w (Post to (Int z ∷ args)) = stayed a w
stayed_done a c k w (Post to (Boolean b ∷ args)) = stayed a w
stayed_done a c k w (Post to (Nil ∷ args)) = stayed a w
stayed_done a c k w (Post to (Class d ∷ args)) = stayed a w
stayed_done a c k w (Post to (Reference d ∷ args)) = stayed a w
stayed_done a c k w (Post to (Local n ∷ args)) = stayed a w
stayed_done a c k w (Close to) = stayed_tried a w (after_close w to) (λ v e. stayed_closed a w v to e)
stayed_done a c k w (Create class) = stayed_create a c class w

-- ---- steps of another

some_world : (w v : World) → Some w ≡ Some v → w ≡ v
some_world w v e = cc

stayed_taken : (a : ℕ) (c : Constants) (k : ActorId) (w v : World) (s : Step) → (k.0 == a) ≡ false → after_step_of c k w s ≡ Some v → HasStayed a w v
stayed_taken a c k w v (leads body) n e = subst (HasStayed a w) (some_world _ v e) (stayed_other a (with_body body) k w n)
stayed_taken a c k w v ended n e = cc
stayed_taken a c k w v (outer act) n e =
    let d : ActResult = act_result c k w act in
    subst (HasStayed a w) (some_world _ v e) (stayed_then a w d.world (after_act k act d) (stayed_done a c k w act) (stayed_other a (λ b. with_body (reply_body act d.answer b.body) b) k d.world n))

stayed_step : (a : ℕ) (c : Constants) (k : ActorId) (w v : World) → (k.0 == a) ≡ false → after_step c k w ≡ Some v → HasStayed a w v
stayed_step a c k w v n e = let p = bound (λ b. after_step_of c k w (step w.edits k b.body)) (slice_get w.actors k.0) v e in stayed_taken a c k w v (step w.edits k p.0.body) n p.2

stayed_steps : (a : ℕ) (c : Constants) (k : ActorId) (n : ℕ) (w v : World) → (k.0 == a) ≡ false → world_after c k n w ≡ Some v → HasStayed a w v
stayed_steps a c k zero w v o e = subst (HasStayed a w) (some_world w v e) (stayed a w)
stayed_steps a c k (suc n) w v o e = let p = bound (world_after c k n) (after_step c k w) v e in stayed_then a w p.0 v (stayed_step a c k w p.0 o p.1) (stayed_steps a c k n p.0 v o p.2)

-- ---- an item

pub stayed_next : (a : ℕ) (c : Constants) (w v : World) (i : Item) → next c w i ≡ Some v → changes_body a i ≡ false → HasStayed a w v
stayed_next a c w v (Edited e) h o = stayed_by a w v (ap (λ (x : World). x.actors) (sym (let_through _ _ v h).1))
stayed_next a c w v (Created class) h o = subst (HasStayed a w) (let_through _ _ v h).1 (stayed_new a c class w)
stayed_next a c w v (Posted k m) h o = stayed_posted a c w v k m h
stayed_next a c w v (Closed k) h o = stayed_closed a w v k h
stayed_next a c w v (Begun k) h o =
    let p = mapped (λ m. change (with_begun m) k w) (next_message (slice_get w.actors k.0)) v h in
    subst (HasStayed a w) p.2 (stayed_other a (with_begun p.0) k w o)
stayed_next a c w v (Ran k n) h o = stayed_steps a c k n w v o (cond_some (nat_lt 0 n) (world_after c k n w) v (sym (ran_after c w k n) ∙ h)).1

-- ---- a history

pub changes_append : (is js : List Item) (a : ℕ) → changes_in (is ++ js) a ≡ changes_in is a + changes_in js a
changes_append is js a = sum_by-append (λ (i : Item). cond (changes_body a i) 1 0) is js

none_first : (a : ℕ) (i : Item) (is : List Item) (b : Bool) → changes_body a i ≡ b → changes_in (i ∷ is) a ≡ 0 → (b ≡ false) × (changes_in is a ≡ 0)
none_first a i is true e h = absurd (let one : changes_in (i ∷ []) a ≡ 0 + 1 = ap (λ (t : Bool). 0 + cond t 1 0) e in omega (arith, one, h, changes_append (i ∷ []) is a))
none_first a i is false e h = (refl, omega (arith, h, changes_append (i ∷ []) is a))

pub stayed_through : (a : ℕ) (c : Constants) (w v : World) (is : List Item) → replay c w is ≡ Some v → changes_in is a ≡ 0 → HasStayed a w v
stayed_through a c w v [] e h = subst (HasStayed a w) (some_world w v e) (stayed a w)
stayed_through a c w v (i ∷ is) e h =
    let p = bound (λ u. replay c u is) (next c w i) v e in
    let f = none_first a i is (changes_body a i) refl h in
    stayed_then a w p.0 v (stayed_next a c w p.0 i p.1 f.0) (stayed_through a c p.0 v is p.2 f.1)

-- the body of an actor, where nothing changed it
pub body_stays : (c : Constants) (w v : World) (is : List Item) (a : ℕ) (b : WorldActor) → replay c w is ≡ Some v → changes_in is a ≡ 0 → slice_get w.actors a ≡ Some b → option_map (λ (d : WorldActor). d.body) (slice_get v.actors a) ≡ Some b.body
body_stays c w v is a b e h at =
    let p = stayed_through a c w v is e h b at in
    ap (λ (o : Option WorldActor). option_map (λ (d : WorldActor). d.body) o) p.1 ∙ ap Some p.2
