-- Delivery: each item keeps the order, and actors only grow.
use Rattle.std.proofs.Common.{arith, ◌≡◌, ℕ, zero, suc, ◌++◌, [], ◌∷◌, List, Option, Some, None, Ok, refl, ap, sym, ◌∙◌, subst, length, slice_get, Bool, true, false, cond, drop, append_assoc, append-nil, option_and_then, inl, inr}
use Rattle.std.specs.Prelude.{All, not, nat_le, nat_lt}
use Rattle.std.specs.List.{list_any}
use Rattle.std.proofs.Math.Seq.{drop-append_seam}
use Rattle.std.proofs.lemmas.List.Elements.{All-push, All-weaker}
use Rattle.st_classes.specs.declared.values.ActorId.{ActorId}
use Rattle.st_classes.specs.declared.values.ClassId.{ClassId}
use Rattle.st_classes.specs.declared.values.Selector.{Selector}
use Rattle.st_classes.specs.declared.values.Value.{Value}
use Rattle.st_classes.specs.declared.values.Value.TheVariants.{Int, Bool as Boolean, Nil, Sym, Class, Actor as Reference, Local}
use Rattle.st_classes.specs.declared.faults.Fault.TheVariants.{BadArgument, LocalArgument, TooManyActors}
use Rattle.st_classes.specs.declared.edits.Edit.{Edit}
use Rattle.st_classes.specs.EditRules.{is_value_class}
use Rattle.st_classes.specs.MethodSuits.{arity_at, is_number}
use Rattle.st_classes.proofs.LawLists.{slice_get_kept}
use Rattle.st_turn.specs.declared.acts.Act.{Act}
use Rattle.st_turn.specs.declared.acts.Act.TheVariants.{Post, Close, Create}
use Rattle.st_turn.specs.declared.body.Body.{Body}
use Rattle.st_turn.specs.declared.body.Outcome.{Outcome}
use Rattle.st_turn.specs.declared.body.Phase.{Phase}
use Rattle.st_turn.specs.declared.body.Phase.TheVariants.{Fresh, Start, Frames, Done as Ended}
use Rattle.st_turn.specs.Steps.{Step, next as leads, ended, outer, reply_body, step}
use Rattle.st_turn.specs.Idle.{is_idle}
use Rattle.st_mailbox.specs.declared.messages.Message.{Message}
use Rattle.st_mailbox.specs.declared.messages.Sender.{Sender}
use Rattle.st_mailbox.specs.declared.messages.Sender.TheVariants.{Client, Actor}
use Rattle.st_image.specs.declared.history.Item.{Item}
use Rattle.st_image.specs.declared.history.Item.TheVariants.{Edited, Created, Posted, Closed, Begun, Ran}
use Rattle.st_image.specs.Worlds.{Constants, World, WorldActor, change, change_at, pending}
use Rattle.st_image.specs.Replay.{ActResult, with_accepted, after_act, after_begin, with_begun, after_close, create_result, after_create, act_result, after_edit, failed_act, is_local, new_world_actor, next, next_message, only_if, post_result, after_post, after_post_by, replay, after_step, after_step_of, attempted_act, with_body, with_last, with_new, with_result}
use Rattle.st_image.specs.ActResults.{world_after}
use Rattle.st_image.specs.Images.{ImageView, constants, world}
use Rattle.st_image.specs.WorldInvariant.{IsWorldActor, IsLawful}
use Rattle.st_image.specs.Delivery.{IsPrefixOf, BeginsInOrder, HasGrown, OnlyGrow, IsDelivered, Delivers, HasDelivered}
use Rattle.st_image.specs.Senders.{InSendingOrder}
use Rattle.st_image.proofs.Changing.{All-change, get-change-any}
use Rattle.st_image.proofs.SendingOrder.{KeepsMail, accepted_once, begun_in_order, follows_change, follows_edits, follows_new, order_follows, order_receives, post_receives, post_there}
use Rattle.st_image.proofs.Replays.{replay_append}
use Rattle.st_image.proofs.Stepping.{bound, mapped, cond_some, ran_after}

-- what a condition lets through is what it was given
pub let_through : (b : Bool) (w v : World) → only_if b w ≡ Some v → (b ≡ true) × (w ≡ v)
let_through true w v e = (refl, cc)
let_through false w v e = cc

-- the first pending message of an idle actor
pub record IsNextMessage (o : Option WorldActor) (m : Message) : Type 0 where
  pub being : WorldActor
  pub rest : List Message
  pub there : o ≡ Some being
  pub idle : is_idle being.body.phase ≡ true
  pub first : pending being ≡ m ∷ rest

first_is : (ms : List Message) (m : Message) → slice_get ms 0 ≡ Some m → (rest : List Message) × (ms ≡ m ∷ rest)
first_is [] m e = cc
first_is (n ∷ ms) m e = let same : n ≡ m = cc in (ms, ap (λ (x : Message). x ∷ ms) same)

pub next_is : (o : Option WorldActor) (m : Message) → next_message o ≡ Some m → IsNextMessage o m
next_is None m e = cc
next_is (Some b) m e =
    let t = cond_some (is_idle b.body.phase) (slice_get (pending b) 0) m e in
    let f = first_is (pending b) m t.1 in
    record { being = b; rest = f.0; there = refl; idle = t.0; first = f.1 }

-- ---- prefixes

pub prefix_refl : {X : Type 0} → (xs : List X) → IsPrefixOf xs xs
prefix_refl xs = ([], sym (append-nil xs))

pub prefix_more : {X : Type 0} → (xs ys zs : List X) → IsPrefixOf xs ys → IsPrefixOf ys zs → IsPrefixOf xs zs
prefix_more xs ys zs p q = (p.0 ++ q.0, q.1 ∙ ap (λ (l : List _). l ++ q.0) p.1 ∙ append_assoc xs p.0 q.0)

-- ---- what only grows

grown_refl : (b : WorldActor) → HasGrown b b
grown_refl b = record { accepted = prefix_refl b.accepted; begun = prefix_refl b.begun; results = prefix_refl b.results; closed = λ e. (e, refl) }

grown_more : (b c d : WorldActor) → HasGrown b c → HasGrown c d → HasGrown b d
grown_more b c d f g = record {
  accepted = prefix_more b.accepted c.accepted d.accepted f.accepted g.accepted;
  begun = prefix_more b.begun c.begun d.begun f.begun g.begun;
  results = prefix_more b.results c.results d.results f.results g.results;
  closed = λ e. let p = f.closed e in let q = g.closed p.0 in (q.0, q.1 ∙ p.1);
}

grow_refl : (xs : List WorldActor) → OnlyGrow xs xs
grow_refl xs = λ a b e. (b, e, grown_refl b)

grow_more : (xs ys zs : List WorldActor) → OnlyGrow xs ys → OnlyGrow ys zs → OnlyGrow xs zs
grow_more xs ys zs f g = λ a b e. let p = f a b e in let q = g a p.0 p.1 in (q.0, q.1, grown_more b p.0 q.0 p.2 q.2)

grow_push : (xs : List WorldActor) (c : WorldActor) → OnlyGrow xs (xs ++ c ∷ [])
grow_push xs c = λ a b e. (b, slice_get_kept xs (c ∷ []) a b e, grown_refl b)

grow_change : (xs : List WorldActor) (k : ℕ) (f : WorldActor → WorldActor) → ((b : WorldActor) → slice_get xs k ≡ Some b → HasGrown b (f b)) → OnlyGrow xs (change_at f k xs)
grow_change xs k f h = λ a b e. elim (get-change-any f k xs a b e) [
  | inl there ↦ (b, there, grown_refl b)
  | inr s ↦ (f b, s.1, h b (subst (λ (n : ℕ). slice_get xs n ≡ Some b) s.0 e))
]

-- ---- one change

-- an item keeps the order, and actors only grow
pub record Keeps (w v : World) : Type 0 where
  pub begins : All BeginsInOrder w.actors → All BeginsInOrder v.actors
  pub grows : OnlyGrow w.actors v.actors
  pub orders : InSendingOrder w → InSendingOrder v

keeps_refl : (w : World) → Keeps w w
keeps_refl w = record { begins = λ h. h; grows = grow_refl w.actors; orders = λ o. o }

keeps_more : (w v u : World) → Keeps w v → Keeps v u → Keeps w u
keeps_more w v u f g = record { begins = λ h. g.begins (f.begins h); grows = grow_more w.actors v.actors u.actors f.grows g.grows; orders = λ o. g.orders (f.orders o) }

-- what a change of an actor keeps
abbrev KeepsBeing : WorldActor → WorldActor → Type 0
KeepsBeing b d = (BeginsInOrder b → BeginsInOrder d) × HasGrown b d × KeepsMail b d

keeps_change : (w : World) (a : ActorId) (f : WorldActor → WorldActor) → ((b : WorldActor) → slice_get w.actors a.0 ≡ Some b → KeepsBeing b (f b)) → Keeps w (change f a w)
keeps_change w a f h = record {
  begins = λ all. All-change BeginsInOrder f a.0 w.actors (λ b at p. (h b at).0 p) all;
  grows = grow_change w.actors a.0 f (λ b at. (h b at).1);
  orders = order_follows w (change f a w) (follows_change w a f (λ b at. (h b at).2));
}

keeps_edited : (c : Constants) (w v : World) (e : Edit) → after_edit c w e ≡ Some v → Keeps w v
keeps_edited c w v e h =
    let t = let_through _ _ v h in
    let same : w.actors ≡ v.actors = ap (λ (x : World). x.actors) t.1 in
    record {
      begins = λ all. subst (λ (xs : List WorldActor). All BeginsInOrder xs) same all;
      grows = subst (λ (xs : List WorldActor). OnlyGrow w.actors xs) same (grow_refl w.actors);
      orders = subst (λ (x : World). InSendingOrder w → InSendingOrder x) t.1 (order_follows w _ (follows_edits w _));
    }

pub nothing_begun : (b : WorldActor) → b.begun ≡ [] → BeginsInOrder b
nothing_begun b e = (b.accepted, ap (λ (l : List Message). l ++ b.accepted) (sym e))

keeps_new : (c : Constants) (class : ClassId) (w : World) → Keeps w (with_new c class w)
keeps_new c class w = record {
  begins = λ all. All-push BeginsInOrder w.actors (new_world_actor w.edits class c.capacity) all (nothing_begun (new_world_actor w.edits class c.capacity) refl);
  grows = grow_push w.actors (new_world_actor w.edits class c.capacity);
  orders = order_follows w (with_new c class w) (follows_new c class w);
}

keeps_created : (c : Constants) (w v : World) (class : ClassId) → after_create c w class ≡ Some v → Keeps w v
keeps_created c w v class h = let t = let_through _ _ v h in subst (Keeps w) t.1 (keeps_new c class w)

pub accepting_begins : (m : Message) (b : WorldActor) → BeginsInOrder b → BeginsInOrder (with_accepted m b)
accepting_begins m b h = (h.0 ++ m ∷ [], ap (λ (l : List Message). l ++ m ∷ []) h.1 ∙ append_assoc b.begun h.0 (m ∷ []))

same_being : (b d : WorldActor) → Some b ≡ Some d → b ≡ d
same_being b d e = cc

-- where only the body and the last number differ, and perhaps more was begun
grown_same : (b d : WorldActor) → d.accepted ≡ b.accepted → d.begun ≡ b.begun → d.results ≡ b.results → d.is_open ≡ b.is_open → HasGrown b d
grown_same b d accepted begun results is_open = record {
  accepted = subst (λ (xs : List Message). IsPrefixOf b.accepted xs) (sym accepted) (prefix_refl b.accepted);
  begun = subst (λ (xs : List Message). IsPrefixOf b.begun xs) (sym begun) (prefix_refl b.begun);
  results = subst (λ (xs : List Outcome). IsPrefixOf b.results xs) (sym results) (prefix_refl b.results);
  closed = λ e. (is_open ∙ e, accepted);
}

last_begins : (s : Sender) (n : ℕ) (w : World) → All BeginsInOrder w.actors → All BeginsInOrder (with_last s n w).actors
last_begins (Client s) n w h = h
last_begins (Actor a) n w h = All-change BeginsInOrder (λ b. record b { last = n }) a.0 w.actors (λ b at p. p) h

last_grows : (s : Sender) (n : ℕ) (w : World) → OnlyGrow w.actors (with_last s n w).actors
last_grows (Client s) n w = grow_refl w.actors
last_grows (Actor a) n w = grow_change w.actors a.0 (λ b. record b { last = n }) (λ b at. grown_same b (record b { last = n }) refl refl refl refl)

-- nothing that is accepted is accepted by a closed mailbox
accepting_grows : (m : Message) (b : WorldActor) → b.is_open ≡ true → HasGrown b (with_accepted m b)
accepting_grows m b e = record { accepted = (m ∷ [], refl); begun = prefix_refl b.begun; results = prefix_refl b.results; closed = λ f. cc }

keeps_posted : (c : Constants) (w v : World) (a : ActorId) (m : Message) → after_post c w a m ≡ Some v → Keeps w v
keeps_posted c w v a m h =
    let t = let_through _ _ v h in
    let o = post_there c w a m t.0 in
    let u : World = change (with_accepted m) a w in
    let grows : OnlyGrow w.actors u.actors = grow_change w.actors a.0 (with_accepted m) (λ b at. accepting_grows m b (subst (λ (x : WorldActor). x.is_open ≡ true) (same_being o.0 b (sym o.1 ∙ at)) o.2.is_open)) in
    subst (Keeps w) t.1 (record {
      begins = λ all. last_begins m.sender m.seq u (All-change BeginsInOrder (with_accepted m) a.0 w.actors (λ b at p. accepting_begins m b p) all);
      grows = grow_more w.actors u.actors (with_last m.sender m.seq u).actors grows (last_grows m.sender m.seq u);
      orders = order_receives w (with_last m.sender m.seq u) a.0 (length o.0.accepted) m (post_receives c w a m o.0 o.1 o.2);
    })

keeps_closed : (w v : World) (a : ActorId) → after_close w a ≡ Some v → Keeps w v
keeps_closed w v a h =
    let t = let_through _ _ v h in
    subst (Keeps w) t.1 (keeps_change w a (λ b. record b { is_open = false }) (λ b at. (λ p. p, record { accepted = prefix_refl b.accepted; begun = prefix_refl b.begun; results = prefix_refl b.results; closed = λ e. (refl, refl) }, (refl, omega arith))))

-- what was begun, and then the first that is pending
pub beginning_begins : (m : Message) (b : WorldActor) (ms : List Message) → pending b ≡ m ∷ ms → BeginsInOrder b → BeginsInOrder (with_begun m b)
beginning_begins m b ms e h =
    let rest : pending b ≡ h.0 = ap (λ (l : List Message). drop (length b.begun) l) h.1 ∙ drop-append_seam b.begun h.0 in
    let next_first : h.0 ≡ m ∷ ms = sym rest ∙ e in
    (ms, h.1 ∙ ap (λ (l : List Message). b.begun ++ l) next_first ∙ sym (append_assoc b.begun (m ∷ []) ms))

keeps_begun : (w v : World) (a : ActorId) → after_begin w a ≡ Some v → Keeps w v
keeps_begun w v a h =
    let p = mapped (λ m. change (with_begun m) a w) (next_message (slice_get w.actors a.0)) v h in
    let n : IsNextMessage (slice_get w.actors a.0) p.0 = next_is (slice_get w.actors a.0) p.0 p.1 in
    subst (Keeps w) p.2 (keeps_change w a (with_begun p.0) (λ b at.
    let same : n.being ≡ b = same_being n.being b (sym n.there ∙ at) in
    (beginning_begins p.0 b n.rest (subst (λ (x : WorldActor). pending x ≡ p.0 ∷ n.rest) same n.first), record { accepted = prefix_refl b.accepted; begun = (p.0 ∷ [], refl); results = prefix_refl b.results; closed = λ e. (e, refl) }, (refl, omega arith))))

-- ---- acts

either_keeps : (w : World) (b : Bool) (p q : ActResult) → Keeps w p.world → Keeps w q.world → Keeps w (cond b p q).world
either_keeps w true p q h k = h
either_keeps w false p q h k = k

tried_keeps : (w : World) (o : Option World) → ((v : World) → o ≡ Some v → Keeps w v) → Keeps w (attempted_act w o).world
tried_keeps w None h = keeps_refl w
tried_keeps w (Some v) h = h v refl

keeps_posted_by : (c : Constants) (to : ActorId) (s : Selector) (args : List Value) (a : ActorId) (w v : World) (o : Option WorldActor) → after_post_by c to s args a w o ≡ Some v → Keeps w v
keeps_posted_by c to s args a w v None e = cc
keeps_posted_by c to s args a w v (Some b) e = keeps_posted c w v to _ (cond_some _ _ v e).1

keeps_post : (c : Constants) (to : ActorId) (s : Selector) (args : List Value) (a : ActorId) (w : World) → Keeps w (post_result c to s args a w).world
keeps_post c to s args a w =
    let o : Option World = after_post_by c to s args a w (slice_get w.actors a.0) in
    either_keeps w (not (is_number (arity_at c.names s) (length args))) (failed_act w BadArgument) (cond (list_any is_local args) (failed_act w LocalArgument) (attempted_act w o)) (keeps_refl w)
    (either_keeps w (list_any is_local args) (failed_act w LocalArgument) (attempted_act w o) (keeps_refl w) (tried_keeps w o (λ v e. keeps_posted_by c to s args a w v (slice_get w.actors a.0) e)))

keeps_create : (c : Constants) (class : ClassId) (w : World) → Keeps w (create_result c class w).world
keeps_create c class w =
    let made : ActResult = record { world = with_new c class w; answer = Ok (Reference (record { 0 = length w.actors })) } in
    either_keeps w (is_value_class class) (failed_act w BadArgument) (cond (nat_le 65536 (length w.actors)) (failed_act w TooManyActors) made) (keeps_refl w)
    (either_keeps w (nat_le 65536 (length w.actors)) (failed_act w TooManyActors) made (keeps_refl w) (keeps_new c class w))

keeps_done : (c : Constants) (a : ActorId) (w : World) (act : Act) → Keeps w (act_result c a w act).world
keeps_done c a w (Post to (Sym s ∷ args)) = keeps_post c to s args a w
keeps_done c a w (Post to []) = keeps_refl w
keeps_done c a w (Post to (Int z ∷ args)) = keeps_refl w
keeps_done c a w (Post to (Boolean b ∷ args)) = keeps_refl w
keeps_done c a w (Post to (Nil ∷ args)) = keeps_refl w
keeps_done c a w (Post to (Class d ∷ args)) = keeps_refl w
keeps_done c a w (Post to (Reference d ∷ args)) = keeps_refl w
keeps_done c a w (Post to (Local n ∷ args)) = keeps_refl w
keeps_done c a w (Close to) = tried_keeps w (after_close w to) (λ v e. keeps_closed w v to e)
keeps_done c a w (Create class) = keeps_create c class w

-- ---- steps

results_grow : (phase : Phase) (results : List Outcome) → IsPrefixOf results (with_result phase results)
results_grow Fresh results = prefix_refl results
results_grow (Start s args) results = prefix_refl results
results_grow (Frames fs) results = prefix_refl results
results_grow (Ended outcome) results = (outcome ∷ [], refl)

body_keeps : (body : Body) (b : WorldActor) → KeepsBeing b (with_body body b)
body_keeps body b = (λ p. p, record { accepted = prefix_refl b.accepted; begun = prefix_refl b.begun; results = results_grow body.phase b.results; closed = λ e. (e, refl) }, (refl, omega arith))

some_world : (w v : World) → Some w ≡ Some v → w ≡ v
some_world w v e = cc

keeps_taken : (c : Constants) (a : ActorId) (w v : World) (s : Step) → after_step_of c a w s ≡ Some v → Keeps w v
keeps_taken c a w v (leads body) e = subst (Keeps w) (some_world _ v e) (keeps_change w a (with_body body) (λ b at. body_keeps body b))
keeps_taken c a w v ended e = cc
keeps_taken c a w v (outer act) e =
    let d : ActResult = act_result c a w act in
    subst (Keeps w) (some_world _ v e) (keeps_more w d.world (after_act a act d) (keeps_done c a w act) (keeps_change d.world a (λ b. with_body (reply_body act d.answer b.body) b) (λ b at. body_keeps (reply_body act d.answer b.body) b)))

keeps_stepped : (c : Constants) (a : ActorId) (w v : World) → after_step c a w ≡ Some v → Keeps w v
keeps_stepped c a w v e = let p = bound (λ b. after_step_of c a w (step w.edits a b.body)) (slice_get w.actors a.0) v e in keeps_taken c a w v (step w.edits a p.0.body) p.2

keeps_after : (c : Constants) (a : ActorId) (n : ℕ) (w v : World) → world_after c a n w ≡ Some v → Keeps w v
keeps_after c a zero w v e = subst (Keeps w) (some_world w v e) (keeps_refl w)
keeps_after c a (suc n) w v e = let p = bound (world_after c a n) (after_step c a w) v e in keeps_more w p.0 v (keeps_stepped c a w p.0 p.1) (keeps_after c a n p.0 v p.2)

pub next_keeps_order : (c : Constants) (w v : World) (i : Item) → next c w i ≡ Some v → Keeps w v
next_keeps_order c w v (Edited e) h = keeps_edited c w v e h
next_keeps_order c w v (Created class) h = keeps_created c w v class h
next_keeps_order c w v (Posted a m) h = keeps_posted c w v a m h
next_keeps_order c w v (Closed a) h = keeps_closed w v a h
next_keeps_order c w v (Begun a) h = keeps_begun w v a h
next_keeps_order c w v (Ran a n) h = keeps_after c a n w v (cond_some (nat_lt 0 n) (world_after c a n w) v (sym (ran_after c w a n) ∙ h)).1

-- ---- a history

pub replay_keeps_order : (c : Constants) (w u : World) (is : List Item) → replay c w is ≡ Some u → Keeps w u
replay_keeps_order c w u [] h = subst (Keeps w) (some_world w u h) (keeps_refl w)
replay_keeps_order c w u (i ∷ is) h = let p = bound (λ v. replay c v is) (next c w i) u h in keeps_more w p.0 u (next_keeps_order c w p.0 i p.1) (replay_keeps_order c p.0 u is p.2)

-- what is in order is accepted once, and begun once and in order
pub delivered_in : (w : World) → All BeginsInOrder w.actors → InSendingOrder w → IsDelivered w
delivered_in w begins senders = record { begins = begins; once = accepted_once w senders; senders = senders; begun = begun_in_order w begins senders }

-- delivery, over each prefix of a lawful history
pub delivers : Delivers
delivers c base first later v w begins senders f h =
    let one : Keeps base v = replay_keeps_order c base v first f in
    let rest : replay c v later ≡ Some w = sym (ap (λ (o : Option World). option_and_then (λ u. replay c u later) o) f) ∙ sym (replay_append c base first later) ∙ h in
    let two : Keeps v w = replay_keeps_order c v w later rest in
    let here : IsDelivered v = delivered_in v (one.begins begins) (one.orders senders) in
    (here, delivered_in w (two.begins here.begins) (two.orders here.senders), two.grows)

-- delivery in an image
pub has_delivered : (i : ImageView) → IsLawful i → HasDelivered i
has_delivered i h first later e =
    let c : Constants = constants i in
    let begins : All BeginsInOrder i.base.actors = All-weaker (IsWorldActor c.names i.base.edits (length i.base.actors)) BeginsInOrder (λ b g. g.begins) i.base.actors h.base.actors in
    let whole : replay c i.base (first ++ later) ≡ Some (world i) = subst (λ (is : List Item). replay c i.base is ≡ Some (world i)) e h.lawful in
    let f = bound (λ v. replay c v later) (replay c i.base first) (world i) (sym (replay_append c i.base first later) ∙ whole) in
    let d = delivers c i.base first later f.0 (world i) begins h.senders f.1 whole in
    (f.0, f.1, d.0, d.2)
