-- The numbers of clients: only a client's post changes them.
use Rattle.std.proofs.Common.{arith, ◌≡◌, ◌+◌, ◌++◌, ◌==◌, ℕ, zero, suc, [], ◌∷◌, List, Option, Some, None, Ok, refl, ap, sym, ◌∙◌, subst, length, slice_get, Bool, true, false, cond}
use Rattle.std.specs.Prelude.{not, nat_le, nat_lt}
use Rattle.std.specs.List.{list_any}
use Rattle.std.proofs.lemmas.Bool.Decides.{nat_tests}
use Rattle.st_classes.specs.declared.values.ActorId.{ActorId}
use Rattle.st_classes.specs.declared.values.ClassId.{ClassId}
use Rattle.st_classes.specs.declared.values.Selector.{Selector}
use Rattle.st_classes.specs.declared.values.Value.{Value}
use Rattle.st_classes.specs.declared.values.Value.TheVariants.{Int, Bool as Boolean, Nil, Sym, Class, Actor as Reference, Local}
use Rattle.st_classes.specs.declared.faults.Fault.TheVariants.{BadArgument, LocalArgument, TooManyActors}
use Rattle.st_classes.specs.EditRules.{is_value_class}
use Rattle.st_classes.specs.MethodSuits.{arity_at, is_number}
use Rattle.st_turn.specs.declared.acts.Act.{Act}
use Rattle.st_turn.specs.declared.acts.Act.TheVariants.{Post, Close, Create}
use Rattle.st_turn.specs.Steps.{Step, next as leads, ended, outer, step}
use Rattle.st_mailbox.specs.declared.messages.Message.{Message}
use Rattle.st_mailbox.specs.declared.messages.Sender.{Sender}
use Rattle.st_mailbox.specs.declared.messages.Sender.TheVariants.{Client, Actor}
use Rattle.st_image.specs.declared.history.Item.{Item}
use Rattle.st_image.specs.declared.history.Item.TheVariants.{Edited, Created, Posted, Closed, Begun, Ran}
use Rattle.st_image.specs.Worlds.{Constants, World, WorldActor, change, client_last, put_number}
use Rattle.st_image.specs.Replay.{ActResult, after_close, after_post_by, after_step, after_step_of, act_result, attempted_act, create_result, failed_act, is_local, next, next_message, post_result, with_accepted, with_begun, with_last, with_new}
use Rattle.st_image.specs.Replay.{replay}
use Rattle.st_image.specs.Clients.{KeepsClients, clients_after, clients_after_post, clients_through, number_of}
use Rattle.st_image.specs.ActResults.{world_after}
use Rattle.st_image.proofs.Deliveries.{let_through}
use Rattle.st_image.proofs.SendingOrder.{put_other, put_same}
use Rattle.st_image.proofs.Stepping.{bound, mapped, cond_some, ran_after}

last_clients : (s : Sender) (n : ℕ) (w : World) → (with_last s n w).clients ≡ clients_after_post s n w.clients
last_clients (Client s) n w = refl
last_clients (Actor a) n w = refl

some_world : (w v : World) → Some w ≡ Some v → w ≡ v
some_world w v e = cc

-- what a post that is let through leaves
posted_clients : (b : Bool) (w v : World) (a : ActorId) (m : Message) → cond b (Some (with_last m.sender m.seq (change (with_accepted m) a w))) None ≡ Some v → v.clients ≡ clients_after_post m.sender m.seq w.clients
posted_clients true w v a m e = ap (λ (x : World). x.clients) (sym (some_world _ v e)) ∙ last_clients m.sender m.seq (change (with_accepted m) a w)
posted_clients false w v a m e = cc

-- ---- acts

either_same : (w : World) (b : Bool) (p q : ActResult) → p.world.clients ≡ w.clients → q.world.clients ≡ w.clients → (cond b p q).world.clients ≡ w.clients
either_same w true p q h k = h
either_same w false p q h k = k

attempt_same : (w : World) (o : Option World) → ((v : World) → o ≡ Some v → v.clients ≡ w.clients) → (attempted_act w o).world.clients ≡ w.clients
attempt_same w None h = refl
attempt_same w (Some v) h = h v refl

post_by_same : (c : Constants) (to : ActorId) (s : Selector) (args : List Value) (a : ActorId) (w v : World) (o : Option WorldActor) → after_post_by c to s args a w o ≡ Some v → v.clients ≡ w.clients
post_by_same c to s args a w v None e = cc
post_by_same c to s args a w v (Some b) e = posted_clients _ w v to (record { sender = Actor a; seq = b.last + 1; selector = s; args = args }) (cond_some _ _ v e).1

post_same : (c : Constants) (to : ActorId) (s : Selector) (args : List Value) (a : ActorId) (w : World) → (post_result c to s args a w).world.clients ≡ w.clients
post_same c to s args a w =
    let o : Option World = after_post_by c to s args a w (slice_get w.actors a.0) in
    either_same w (not (is_number (arity_at c.names s) (length args))) (failed_act w BadArgument) (cond (list_any is_local args) (failed_act w LocalArgument) (attempted_act w o)) refl
    (either_same w (list_any is_local args) (failed_act w LocalArgument) (attempted_act w o) refl (attempt_same w o (λ v e. post_by_same c to s args a w v (slice_get w.actors a.0) e)))

create_same : (c : Constants) (class : ClassId) (w : World) → (create_result c class w).world.clients ≡ w.clients
create_same c class w =
    let made : ActResult = record { world = with_new c class w; answer = Ok (Reference (record { 0 = length w.actors })) } in
    either_same w (is_value_class class) (failed_act w BadArgument) (cond (nat_le 65536 (length w.actors)) (failed_act w TooManyActors) made) refl
    (either_same w (nat_le 65536 (length w.actors)) (failed_act w TooManyActors) made refl refl)

closed_same : (w v : World) (a : ActorId) → after_close w a ≡ Some v → v.clients ≡ w.clients
closed_same w v a h = let t = let_through _ _ v h in subst (λ (x : World). x.clients ≡ w.clients) t.1 refl

act_same : (c : Constants) (a : ActorId) (w : World) (act : Act) → (act_result c a w act).world.clients ≡ w.clients
act_same c a w (Post to (Sym s ∷ args)) = post_same c to s args a w
act_same c a w (Post to []) = refl
act_same c a w (Post to (Int z ∷ args)) = refl
act_same c a w (Post to (Boolean b ∷ args)) = refl
act_same c a w (Post to (Nil ∷ args)) = refl
act_same c a w (Post to (Class d ∷ args)) = refl
act_same c a w (Post to (Reference d ∷ args)) = refl
act_same c a w (Post to (Local n ∷ args)) = refl
act_same c a w (Close to) = attempt_same w (after_close w to) (λ v e. closed_same w v to e)
act_same c a w (Create class) = create_same c class w

-- ---- steps

step_of_same : (c : Constants) (a : ActorId) (w v : World) (s : Step) → after_step_of c a w s ≡ Some v → v.clients ≡ w.clients
step_of_same c a w v (leads body) e = ap (λ (x : World). x.clients) (sym (some_world _ v e))
step_of_same c a w v ended e = cc
step_of_same c a w v (outer act) e = ap (λ (x : World). x.clients) (sym (some_world _ v e)) ∙ act_same c a w act

step_same : (c : Constants) (a : ActorId) (w v : World) → after_step c a w ≡ Some v → v.clients ≡ w.clients
step_same c a w v e = let p = bound (λ b. after_step_of c a w (step w.edits a b.body)) (slice_get w.actors a.0) v e in step_of_same c a w v (step w.edits a p.0.body) p.2

steps_same : (c : Constants) (a : ActorId) (n : ℕ) (w v : World) → world_after c a n w ≡ Some v → v.clients ≡ w.clients
steps_same c a zero w v e = ap (λ (x : World). x.clients) (sym (some_world w v e))
steps_same c a (suc n) w v e = let p = bound (world_after c a n) (after_step c a w) v e in steps_same c a n p.0 v p.2 ∙ step_same c a w p.0 p.1

-- ---- an item

pub next_clients : (c : Constants) (w v : World) (i : Item) → next c w i ≡ Some v → v.clients ≡ clients_after i w.clients
next_clients c w v (Edited e) h = let t = let_through _ _ v h in subst (λ (x : World). x.clients ≡ w.clients) t.1 refl
next_clients c w v (Created class) h = let t = let_through _ _ v h in subst (λ (x : World). x.clients ≡ w.clients) t.1 refl
next_clients c w v (Posted a m) h = posted_clients _ w v a m h
next_clients c w v (Closed a) h = closed_same w v a h
next_clients c w v (Begun a) h = let p = mapped (λ m. change (with_begun m) a w) (next_message (slice_get w.actors a.0)) v h in subst (λ (x : World). x.clients ≡ w.clients) p.2 refl
next_clients c w v (Ran a n) h = steps_same c a n w v (cond_some (nat_lt 0 n) (world_after c a n w) v (sym (ran_after c w a n) ∙ h)).1

-- ---- a history

pub replay_clients : (c : Constants) (w v : World) (h : List Item) → replay c w h ≡ Some v → v.clients ≡ clients_through h w.clients
replay_clients c w v [] e = ap (λ (x : World). x.clients) (sym (some_world w v e))
replay_clients c w v (i ∷ is) e =
    let p = bound (λ u. replay c u is) (next c w i) v e in
    replay_clients c p.0 v is p.2 ∙ ap (clients_through is) (next_clients c w p.0 i p.1)

through_push : (h : List Item) (i : Item) (ps : List (ℕ × ℕ)) → clients_through (h ++ i ∷ []) ps ≡ clients_after i (clients_through h ps)
through_push [] i ps = refl
through_push (j ∷ is) i ps = through_push is i (clients_after j ps)

-- ---- what an image keeps of clients

-- an item that is no client's post
pub kept_other : (numbers : List ℕ) (ps : List (ℕ × ℕ)) (h : List Item) (i : Item) → ((qs : List (ℕ × ℕ)) → clients_after i qs ≡ qs)
    → KeepsClients numbers ps h → KeepsClients numbers ps (h ++ i ∷ [])
kept_other numbers ps h i same k = λ s. ap (client_last s) (through_push h i ps ∙ same (clients_through h ps)) ∙ k s

-- numbers that are the same
pub kept_same : (numbers others : List ℕ) (ps : List (ℕ × ℕ)) (h : List Item) → ((s : ℕ) → number_of others s ≡ number_of numbers s)
    → KeepsClients numbers ps h → KeepsClients others ps h
kept_same numbers others ps h same k = λ s. k s ∙ sym (same s)

put_at : (s k n : ℕ) (ps : List (ℕ × ℕ)) (here : Bool) → (s == k) ≡ here → client_last s (put_number k n ps) ≡ cond here n (client_last s ps)
put_at s k n ps true e = let is_same : s ≡ k = grind (arith, nat_tests) in subst (λ (j : ℕ). client_last j (put_number k n ps) ≡ n) (sym is_same) (put_same k n ps)
put_at s k n ps false e = put_other k s n ps e

-- a client's post
pub kept_post : (numbers others : List ℕ) (ps : List (ℕ × ℕ)) (h : List Item) (a : ActorId) (m : Message) (k : ℕ) → m.sender ≡ Client k
    → ((s : ℕ) → number_of others s ≡ cond (s == k) m.seq (number_of numbers s))
    → KeepsClients numbers ps h → KeepsClients others ps (h ++ Posted a m ∷ [])
kept_post numbers others ps h a m k sender set kept = λ s.
    ap (client_last s) (through_push h (Posted a m) ps ∙ ap (λ (x : Sender). clients_after_post x m.seq (clients_through h ps)) sender)
    ∙ put_at s k m.seq (clients_through h ps) (s == k) refl
    ∙ ap (λ (j : ℕ). cond (s == k) m.seq j) (kept s)
    ∙ sym (set s)

-- the last number of a client in the world that the history leads to
pub kept_last : (c : Constants) (base w : World) (h : List Item) (numbers : List ℕ) (s : ℕ) → replay c base h ≡ Some w → KeepsClients numbers base.clients h
    → client_last s w.clients ≡ number_of numbers s
kept_last c base w h numbers s e k = ap (client_last s) (replay_clients c base w h e) ∙ k s
