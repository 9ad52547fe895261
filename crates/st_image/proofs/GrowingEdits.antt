-- The edits of a history: an edit adds itself, and all other items leave them.
use Rattle.std.proofs.Common.{◌≡◌, ℕ, zero, suc, ◌++◌, [], ◌∷◌, List, Option, Some, None, Result, Ok, Err, Bool, true, false, cond, refl, ap, sym, ◌∙◌, slice_get, length, append_assoc, append-nil, nat_le, nat_lt}
use Rattle.std.specs.Prelude.{not}
use Rattle.std.specs.List.{list_any}
use Rattle.st_classes.specs.declared.values.ClassId.{ClassId}
use Rattle.st_classes.specs.declared.values.ActorId.{ActorId}
use Rattle.st_classes.specs.declared.values.Selector.{Selector}
use Rattle.st_classes.specs.declared.values.Value.{Value}
use Rattle.st_classes.specs.declared.values.Value.TheVariants.{Int, Bool as Boolean, Nil, Sym, Class, Actor as Reference, Local}
use Rattle.st_classes.specs.declared.faults.Fault.TheVariants.{BadArgument, LocalArgument, TooManyActors}
use Rattle.st_classes.specs.declared.refusals.Refusal.{Refusal}
use Rattle.st_classes.specs.MethodSuits.{arity_at, is_number}
use Rattle.st_classes.specs.EditRules.{is_value_class}
use Rattle.st_classes.specs.EditLists.{Begins}
use Rattle.st_classes.specs.Refusals.{Rule}
use Rattle.st_turn.specs.declared.acts.Act.{Act}
use Rattle.st_turn.specs.declared.acts.Act.TheVariants.{Post, Close, Create}
use Rattle.st_turn.specs.Steps.{Step, next as leads, ended, outer, step}
use Rattle.st_mailbox.specs.declared.messages.Message.{Message}
use Rattle.st_mailbox.specs.declared.messages.Sender.{Sender}
use Rattle.st_mailbox.specs.declared.messages.Sender.TheVariants.{Client, Actor}
use Rattle.st_image.specs.declared.history.Item.{Item}
use Rattle.st_image.specs.declared.history.Item.TheVariants.{Edited, Created, Posted, Closed, Begun, Ran}
use Rattle.st_image.specs.Worlds.{Constants, World, WorldActor, change}
use Rattle.st_image.specs.Replay.{ActResult as Acted, act_result, after_close, after_post, after_post_by, after_step, after_step_of, attempted_act, create_result, failed_act, is_local, next, next_message, post_result, replay, with_accepted, with_begun, with_body, with_last, with_new}
use Rattle.st_image.specs.ActResults.{world_after}
use Rattle.st_image.specs.Images.{ImageView, appended, constants, world}
use Rattle.st_image.specs.WorldInvariant.{IsLawful}
use Rattle.st_image.specs.Calls.{Adds}
use Rattle.st_image.specs.RanTargets.{edits_among}
use Rattle.st_image.proofs.Stepping.{bound, cond_some, mapped, ran_after}

-- ---- an act leaves the edits

some_edits : (w v : World) → Some w ≡ Some v → v.edits ≡ w.edits
some_edits w v e = let same : w ≡ v = cc in ap (λ (x : World). x.edits) (sym same)

last_edits : (s : Sender) (n : ℕ) (w : World) → (with_last s n w).edits ≡ w.edits
last_edits (Client s) n w = refl
last_edits (Actor a) n w = refl

posted_edits : (c : Constants) (w v : World) (a : ActorId) (m : Message) → after_post c w a m ≡ Some v → v.edits ≡ w.edits
posted_edits c w v a m h = some_edits (with_last m.sender m.seq (change (with_accepted m) a w)) v (cond_some _ _ v h).1 ∙ last_edits m.sender m.seq (change (with_accepted m) a w)

closed_edits : (w v : World) (a : ActorId) → after_close w a ≡ Some v → v.edits ≡ w.edits
closed_edits w v a h = some_edits (change (λ b. record b { is_open = false }) a w) v (cond_some _ _ v h).1

posted_by_edits : (c : Constants) (to : ActorId) (s : Selector) (args : List Value) (a : ActorId) (w v : World) (o : Option WorldActor) → after_post_by c to s args a w o ≡ Some v → v.edits ≡ w.edits
posted_by_edits c to s args a w v None e = cc
posted_by_edits c to s args a w v (Some b) e = posted_edits c w v to _ (cond_some _ _ v e).1

tried_edits : (w : World) (o : Option World) → ((v : World) → o ≡ Some v → v.edits ≡ w.edits) → (attempted_act w o).world.edits ≡ w.edits
tried_edits w None h = refl
tried_edits w (Some v) h = h v refl

either_edits : (w : World) (b : Bool) (p q : Acted) → p.world.edits ≡ w.edits → q.world.edits ≡ w.edits → (cond b p q).world.edits ≡ w.edits
either_edits w true p q h k = h
either_edits w false p q h k = k

post_edits : (c : Constants) (to : ActorId) (s : Selector) (args : List Value) (a : ActorId) (w : World) → (post_result c to s args a w).world.edits ≡ w.edits
post_edits c to s args a w =
    let o : Option World = after_post_by c to s args a w (slice_get w.actors a.0) in
    let tried : (attempted_act w o).world.edits ≡ w.edits = tried_edits w o (λ v e. posted_by_edits c to s args a w v (slice_get w.actors a.0) e) in
    either_edits w (not (is_number (arity_at c.names s) (length args))) (failed_act w BadArgument) (cond (list_any is_local args) (failed_act w LocalArgument) (attempted_act w o)) refl
    (either_edits w (list_any is_local args) (failed_act w LocalArgument) (attempted_act w o) refl tried)

create_edits : (c : Constants) (class : ClassId) (w : World) → (create_result c class w).world.edits ≡ w.edits
create_edits c class w =
    let made : Acted = record { world = with_new c class w; answer = Ok (Reference (record { 0 = length w.actors })) } in
    either_edits w (is_value_class class) (failed_act w BadArgument) (cond (nat_le 65536 (length w.actors)) (failed_act w TooManyActors) made) refl
    (either_edits w (nat_le 65536 (length w.actors)) (failed_act w TooManyActors) made refl refl)

act_edits : (c : Constants) (a : ActorId) (w : World) (act : Act) → (act_result c a w act).world.edits ≡ w.edits
act_edits c a w (Post to (Sym s ∷ args)) = post_edits c to s args a w
act_edits c a w (Post to []) = refl
act_edits c a w (Post to (Int z ∷ args)) = refl
act_edits c a w (Post to (Boolean b ∷ args)) = refl
act_edits c a w (Post to (Nil ∷ args)) = refl
act_edits c a w (Post to (Class d ∷ args)) = refl
act_edits c a w (Post to (Reference d ∷ args)) = refl
act_edits c a w (Post to (Local n ∷ args)) = refl
act_edits c a w (Close to) = tried_edits w (after_close w to) (λ v e. closed_edits w v to e)
act_edits c a w (Create class) = create_edits c class w

-- ---- steps leave the edits

taken_edits : (c : Constants) (a : ActorId) (w v : World) (s : Step) → after_step_of c a w s ≡ Some v → v.edits ≡ w.edits
taken_edits c a w v (leads body) e = some_edits (change (with_body body) a w) v e
taken_edits c a w v ended e = cc
taken_edits c a w v (outer act) e = some_edits _ v e ∙ act_edits c a w act

step_edits : (c : Constants) (a : ActorId) (w v : World) → after_step c a w ≡ Some v → v.edits ≡ w.edits
step_edits c a w v e = let p = bound (λ b. after_step_of c a w (step w.edits a b.body)) (slice_get w.actors a.0) v e in taken_edits c a w v (step w.edits a p.0.body) p.2

pub steps_edits : (c : Constants) (a : ActorId) (n : ℕ) (w v : World) → world_after c a n w ≡ Some v → v.edits ≡ w.edits
steps_edits c a zero w v e = some_edits w v e
steps_edits c a (suc n) w v e = let p = bound (world_after c a n) (after_step c a w) v e in steps_edits c a n p.0 v p.2 ∙ step_edits c a w p.0 p.1

-- ---- the edits among the items of a history

pub among_append : (is js : List Item) → edits_among (is ++ js) ≡ edits_among is ++ edits_among js
among_append [] js = refl
among_append (Edited e ∷ is) js = ap (λ es. e ∷ es) (among_append is js)
among_append (Created c ∷ is) js = among_append is js
among_append (Posted a m ∷ is) js = among_append is js
among_append (Closed a ∷ is) js = among_append is js
among_append (Begun a ∷ is) js = among_append is js
among_append (Ran a n ∷ is) js = among_append is js

none_more : (w v : World) → v.edits ≡ w.edits → v.edits ≡ w.edits ++ []
none_more w v e = e ∙ sym (append-nil w.edits)

next_edits : (c : Constants) (w v : World) (i : Item) → next c w i ≡ Some v → v.edits ≡ w.edits ++ edits_among (i ∷ [])
next_edits c w v (Edited e) h = some_edits (record w { edits = w.edits ++ e ∷ [] }) v (cond_some _ _ v h).1
next_edits c w v (Created class) h = none_more w v (some_edits (with_new c class w) v (cond_some _ _ v h).1)
next_edits c w v (Posted a m) h = none_more w v (posted_edits c w v a m h)
next_edits c w v (Closed a) h = none_more w v (closed_edits w v a h)
next_edits c w v (Begun a) h =
    let p = mapped (λ m. change (with_begun m) a w) (next_message (slice_get w.actors a.0)) v h in
    none_more w v (ap (λ (x : World). x.edits) (sym p.2))
next_edits c w v (Ran a n) h = none_more w v (steps_edits c a n w v (cond_some (nat_lt 0 n) (world_after c a n w) v (sym (ran_after c w a n) ∙ h)).1)

pub replay_edits : (c : Constants) (w v : World) (is : List Item) → replay c w is ≡ Some v → v.edits ≡ w.edits ++ edits_among is
replay_edits c w v [] e = none_more w v (some_edits w v e)
replay_edits c w v (i ∷ is) e =
    let p = bound (λ u. replay c u is) (next c w i) v e in
    replay_edits c p.0 v is p.2
    ∙ ap (λ es. es ++ edits_among is) (next_edits c w p.0 i p.1)
    ∙ append_assoc w.edits (edits_among (i ∷ [])) (edits_among is)
    ∙ ap (λ es. w.edits ++ es) (sym (among_append (i ∷ []) is))

-- ---- images that go on from others

-- an image began with the same world, and has the other's history, perhaps with items behind it
pub record GoesOn (i j : ImageView) : Type 0 where
  pub base : j.base ≡ i.base
  pub items : List Item
  pub history : j.history ≡ i.history ++ items

-- then its edits are the other's, and those among the items behind
pub edits_longer : (i j : ImageView) → IsLawful i → IsLawful j → (g : GoesOn i j) → (world j).edits ≡ (world i).edits ++ edits_among g.items
edits_longer i j l m g =
    replay_edits (constants j) j.base (world j) j.history m.lawful
    ∙ ap (λ (w : World). w.edits ++ edits_among j.history) g.base
    ∙ ap (λ h. i.base.edits ++ edits_among h) g.history
    ∙ ap (λ es. i.base.edits ++ es) (among_append i.history g.items)
    ∙ sym (append_assoc i.base.edits (edits_among i.history) (edits_among g.items))
    ∙ ap (λ es. es ++ edits_among g.items) (sym (replay_edits (constants i) i.base (world i) i.history l.lawful))

pub edits_grow : (i j : ImageView) → IsLawful i → IsLawful j → GoesOn i j → Begins (world i).edits (world j).edits
edits_grow i j l m g = (edits_among g.items, edits_longer i j l m g)

pub goes_from : (i j : ImageView) → j ≡ i → GoesOn i j
goes_from i j e = record {
  base = ap (λ (k : ImageView). k.base) e;
  items = [];
  history = ap (λ (k : ImageView). k.history) e ∙ sym (append-nil i.history);
}

pub goes_both : (i k j : ImageView) → GoesOn i k → GoesOn k j → GoesOn i j
goes_both i k j f g = record {
  base = g.base ∙ f.base;
  items = f.items ++ g.items;
  history = g.history ∙ ap (λ h. h ++ g.items) f.history ∙ append_assoc i.history f.items g.items;
}

-- names are no items
pub goes_named : (i j : ImageView) (names : List (List ℕ)) → j ≡ record i { names = names } → GoesOn i j
goes_named i j names e = record {
  base = ap (λ (k : ImageView). k.base) e;
  items = [];
  history = ap (λ (k : ImageView). k.history) e ∙ sym (append-nil i.history);
}

pub goes_appended : (i j : ImageView) (items : List Item) → j ≡ appended i items → GoesOn i j
goes_appended i j items e = record {
  base = ap (λ (k : ImageView). k.base) e;
  items = items;
  history = ap (λ (k : ImageView). k.history) e;
}

-- a call that adds an item, or is refused
pub goes_added : {T : Type 0} (rules : List Rule) (i j : ImageView) (item : Item) (answer : ImageView → T) (result : Result T Refusal) → Adds rules i item answer result j → GoesOn i j
goes_added rules i j item answer (Ok value) h = goes_appended i j (item ∷ []) h.0.1.0
goes_added rules i j item answer (Err e) h = goes_from i j h.1
