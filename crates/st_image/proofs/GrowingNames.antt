-- A history lawful for some names is lawful, with the same worlds, for names that go on from them.
use Rattle.std.proofs.Common.{arith, ◌≡◌, ℕ, zero, suc, ◌+◌, ◌-◌, ◌^◌, ◌<◌, ◌++◌, [], ◌∷◌, List, Option, Some, None, refl, ap, sym, ◌∙◌, length, slice_get, Bool, true, false, cond, option_and_then, unwrap_or, length-append, ltb-true}
use Rattle.std.specs.Prelude.{All, ◌&&◌, nat_lt, not, is_none}
use Rattle.std.specs.List.{list_all, list_any}
use Rattle.std.proofs.lemmas.Bool.Decides.{nat_tests}
use Rattle.std.proofs.lemmas.Bool.{and_parts, and_from, not-false}
use Rattle.std.proofs.lemmas.List.Elements.{All-head, All-tail}
use Rattle.st_classes.specs.declared.values.ActorId.{ActorId}
use Rattle.st_classes.specs.declared.values.Selector.{Selector}
use Rattle.st_classes.specs.declared.values.Value.{Value}
use Rattle.st_classes.specs.declared.values.Value.TheVariants.{Int, Bool as Boolean, Nil, Sym, Class, Actor, Local}
use Rattle.st_classes.specs.declared.faults.Fault.TheVariants.{BadArgument, LocalArgument}
use Rattle.st_classes.specs.declared.edits.Edit.{Edit}
use Rattle.st_classes.specs.declared.refusals.Refusal.{Refusal}
use Rattle.st_classes.specs.declared.refusals.Refusal.TheVariants.{BadArguments}
use Rattle.st_classes.specs.Refusals.{Rule, first_of}
use Rattle.st_classes.specs.Classes.{class_count}
use Rattle.st_classes.specs.Selectors.{arity_of}
use Rattle.st_classes.specs.MethodSuits.{arity_at, edit_suits, is_number}
use Rattle.st_classes.specs.EditRules.{edit_rules}
use Rattle.st_classes.proofs.LawLists.{slice_get_old}
use Rattle.st_turn.specs.declared.acts.Act.{Act}
use Rattle.st_turn.specs.declared.acts.Act.TheVariants.{Post, Close, Create}
use Rattle.st_turn.specs.BodyFits.{IsThere}
use Rattle.st_turn.specs.Steps.{Step, next as leads, ended, outer, step}
use Rattle.st_turn.proofs.KeepingActs.{FitsAct}
use Rattle.st_turn.proofs.Keeping.{FitsStep}
use Rattle.st_mailbox.specs.declared.messages.Message.{Message}
use Rattle.st_mailbox.specs.declared.messages.Sender.TheVariants.{Actor as Acting}
use Rattle.st_image.specs.declared.history.Item.{Item}
use Rattle.st_image.specs.declared.history.Item.TheVariants.{Edited, Created, Posted, Closed, Begun, Ran}
use Rattle.st_image.specs.Worlds.{Constants, World, WorldActor, change, pending}
use Rattle.st_image.specs.PostRules.{argument_fits, message_suits, number_rule, post_rules}
use Rattle.st_mailbox.specs.Mailboxes.{box_rules}
use Rattle.st_image.specs.Replay.{ActResult, after_act, with_accepted, act_result, after_edit, failed_act, is_local, next, only_if, post_result, after_post, after_post_by, after_run, replay, after_step, after_step_of, attempted_act, with_last}
use Rattle.st_image.specs.ActResults.{world_after}
use Rattle.st_image.specs.Images.{world_of}
use Rattle.st_image.specs.WorldInvariant.{given, IsSoundItem, IsWorld}
use Rattle.st_image.proofs.MoreNames.{edit_suits_more, message_more}
use Rattle.st_image.proofs.Stepping.{bound, ran_after}
use Rattle.st_image.proofs.Lasting.{fits_step, named_more, next_keeps, stepped_keeps}

only_true : (b c : Bool) (w v : World) → (b ≡ true → c ≡ true) → only_if b w ≡ Some v → only_if c w ≡ Some v
only_true true c w v h e = rw (h refl) e
only_true false c w v h e = cc

-- the first rule falls away, and the others stay
post_free : (b c : Bool) (r : Refusal) (rules : List Rule) → (b ≡ false → c ≡ false) → is_none (first_of ((b, r) ∷ rules)) ≡ true → is_none (first_of ((c, r) ∷ rules)) ≡ true
post_free true c r rules h e = cc
post_free false c r rules h e = rw (h refl) e

not_true : (b : Bool) → b ≡ true → not b ≡ false
not_true true e = refl
not_true false e = cc

rules_more : (c : Constants) (more : List (List ℕ)) (w : World) (m : Message) (o : Option WorldActor) → is_none (first_of (post_rules c.names w o m)) ≡ true → is_none (first_of (post_rules (c.names ++ more) w o m)) ≡ true
rules_more c more w m None e = e
rules_more c more w m (Some b) e = post_free (not (message_suits c.names w m)) (not (message_suits (c.names ++ more) w m)) BadArguments (number_rule w m.sender m.seq ∷ box_rules b.is_open b.capacity (length (pending b))) (λ f. not_true _ (message_more c.names more w m (not-false _ f))) e

posted_more : (c : Constants) (more : List (List ℕ)) (w v : World) (a : ActorId) (m : Message) → after_post c w a m ≡ Some v → after_post (named_more c more) w a m ≡ Some v
posted_more c more w v a m e = only_true (is_none (first_of (post_rules c.names w (slice_get w.actors a.0) m))) (is_none (first_of (post_rules (c.names ++ more) w (slice_get w.actors a.0) m))) (with_last m.sender m.seq (change (with_accepted m) a w)) v (rules_more c more w m (slice_get w.actors a.0)) e

edited_more : (c : Constants) (more : List (List ℕ)) (w v : World) (e : Edit) → after_edit c w e ≡ Some v → after_edit (named_more c more) w e ≡ Some v
edited_more c more w v e h = only_true (is_none (first_of (edit_rules w.edits e)) && edit_suits c.names w.edits e) (is_none (first_of (edit_rules w.edits e)) && edit_suits (c.names ++ more) w.edits e) (record w { edits = w.edits ++ e ∷ [] }) v (λ f. let t = and_parts _ _ f in and_from _ _ t.0 (edit_suits_more c.names more w.edits e t.1)) h

-- ---- acts: what they name is there, so that more names change nothing

arity_same : (names more : List (List ℕ)) (s : Selector) → s.0 < length names → arity_at (names ++ more) s ≡ arity_at names s
arity_same names more s h = ap (λ (o : Option (List ℕ)). option_and_then arity_of o) (slice_get_old names more s.0 h)

argument_same : (names more : List (List ℕ)) (edits : List Edit) (classes actors k : ℕ) (v : Value) → IsThere (given names actors) edits k v → argument_fits (names ++ more) classes actors v ≡ argument_fits names classes actors v
argument_same names more edits classes actors k (Int z) h = refl
argument_same names more edits classes actors k (Boolean b) h = refl
argument_same names more edits classes actors k Nil h = refl
argument_same names more edits classes actors k (Sym s) h =
    let l = length-append names more in
    let here : nat_lt s.0 (length names) ≡ true = grind (arith, nat_tests) in
    let there : nat_lt s.0 (length (names ++ more)) ≡ true = grind (arith, nat_tests) in
    there ∙ sym here
argument_same names more edits classes actors k (Class c) h = refl
argument_same names more edits classes actors k (Actor a) h = refl
argument_same names more edits classes actors k (Local n) h = refl

arguments_same : (names more : List (List ℕ)) (edits : List Edit) (classes actors k : ℕ) (args : List Value) → All (IsThere (given names actors) edits k) args → list_all (argument_fits (names ++ more) classes actors) args ≡ list_all (argument_fits names classes actors) args
arguments_same names more edits classes actors k [] h = refl
arguments_same names more edits classes actors k (v ∷ args) h =
    let one = argument_same names more edits classes actors k v (All-head (IsThere (given names actors) edits k) v args h) in
    let rest = arguments_same names more edits classes actors k args (All-tail (IsThere (given names actors) edits k) v args h) in
    rw (one, rest) refl

suits_same : (c : Constants) (more : List (List ℕ)) (w : World) (k : ℕ) (m : Message) → m.selector.0 < length c.names → All (IsThere (given c.names (length w.actors)) w.edits k) m.args → message_suits (c.names ++ more) w m ≡ message_suits c.names w m
suits_same c more w k m h all = rw (arity_same c.names more m.selector h, arguments_same c.names more w.edits (class_count w.edits) (length w.actors) k m.args all) refl

post_same : (c : Constants) (more : List (List ℕ)) (w : World) (m : Message) (o : Option WorldActor) → message_suits (c.names ++ more) w m ≡ message_suits c.names w m → is_none (first_of (post_rules (c.names ++ more) w o m)) ≡ is_none (first_of (post_rules c.names w o m))
post_same c more w m None e = refl
post_same c more w m (Some b) e = ap (λ (x : Bool). is_none (first_of ((not x, BadArguments) ∷ number_rule w m.sender m.seq ∷ box_rules b.is_open b.capacity (length (pending b))))) e

posted_same : (c : Constants) (more : List (List ℕ)) (w : World) (k : ℕ) (to : ActorId) (m : Message) → m.selector.0 < length c.names → All (IsThere (given c.names (length w.actors)) w.edits k) m.args → after_post (named_more c more) w to m ≡ after_post c w to m
posted_same c more w k to m h all = ap (λ (b : Bool). only_if b (with_last m.sender m.seq (change (with_accepted m) to w))) (post_same c more w m (slice_get w.actors to.0) (suits_same c more w k m h all))

by_same : (c : Constants) (more : List (List ℕ)) (w : World) (k : ℕ) (to : ActorId) (s : Selector) (args : List Value) (a : ActorId) (o : Option WorldActor) → s.0 < length c.names → All (IsThere (given c.names (length w.actors)) w.edits k) args → after_post_by (named_more c more) to s args a w o ≡ after_post_by c to s args a w o
by_same c more w k to s args a None h all = refl
by_same c more w k to s args a (Some b) h all =
    ap (λ (p : Option World). cond (nat_lt b.last (2 ^ 64 - 1)) p None) (posted_same c more w k to (record { sender = Acting a; seq = b.last + 1; selector = s; args = args }) h all)

post_done_same : (c : Constants) (more : List (List ℕ)) (w : World) (k : ℕ) (to : ActorId) (s : Selector) (args : List Value) (a : ActorId) → s.0 < length c.names → All (IsThere (given c.names (length w.actors)) w.edits k) args → post_result (named_more c more) to s args a w ≡ post_result c to s args a w
post_done_same c more w k to s args a h all =
    ap (λ (o : Option ℕ). cond (not (is_number o (length args))) (failed_act w BadArgument) (cond (list_any is_local args) (failed_act w LocalArgument) (attempted_act w (after_post_by (named_more c more) to s args a w (slice_get w.actors a.0))))) (arity_same c.names more s h)
    ∙ ap (λ (p : Option World). cond (not (is_number (arity_at c.names s) (length args))) (failed_act w BadArgument) (cond (list_any is_local args) (failed_act w LocalArgument) (attempted_act w p))) (by_same c more w k to s args a (slice_get w.actors a.0) h all)

done_same : (c : Constants) (more : List (List ℕ)) (a : ActorId) (w : World) (k : ℕ) (act : Act) → FitsAct (given c.names (length w.actors)) w.edits k act → act_result (named_more c more) a w act ≡ act_result c a w act
done_same c more a w k (Post to (Sym s ∷ args)) h =
    let P = IsThere (given c.names (length w.actors)) w.edits k in
    post_done_same c more w k to s args a (ltb-true s.0 (length c.names) (All-head P (Sym s) args h.1)) (All-tail P (Sym s) args h.1)
done_same c more a w k (Post to []) h = refl
done_same c more a w k (Post to (Int z ∷ args)) h = refl
done_same c more a w k (Post to (Boolean b ∷ args)) h = refl
done_same c more a w k (Post to (Nil ∷ args)) h = refl
done_same c more a w k (Post to (Class d ∷ args)) h = refl
done_same c more a w k (Post to (Actor d ∷ args)) h = refl
done_same c more a w k (Post to (Local n ∷ args)) h = refl
done_same c more a w k (Close to) h = refl
done_same c more a w k (Create class) h = refl

taken_same : (c : Constants) (more : List (List ℕ)) (a : ActorId) (w : World) (b : WorldActor) (s : Step) → FitsStep (given c.names (length w.actors)) w.edits b.body s → after_step_of (named_more c more) a w s ≡ after_step_of c a w s
taken_same c more a w b (leads body) h = refl
taken_same c more a w b ended h = refl
taken_same c more a w b (outer act) h = ap (λ (d : ActResult). Some (after_act a act d)) (done_same c more a w (length b.body.objects) act h.0)

stepped_by : (c : Constants) (more : List (List ℕ)) (a : ActorId) (w : World) (o : Option WorldActor) → slice_get w.actors a.0 ≡ o → IsWorld c w → option_and_then (λ b. after_step_of (named_more c more) a w (step w.edits a b.body)) o ≡ option_and_then (λ b. after_step_of c a w (step w.edits a b.body)) o
stepped_by c more a w None at h = refl
stepped_by c more a w (Some b) at h = taken_same c more a w b (step w.edits a b.body) (fits_step c w a b h at)

stepped_same : (c : Constants) (more : List (List ℕ)) (a : ActorId) (w : World) → IsWorld c w → after_step (named_more c more) a w ≡ after_step c a w
stepped_same c more a w h = stepped_by c more a w (slice_get w.actors a.0) refl h

after_by : (c : Constants) (more : List (List ℕ)) (a : ActorId) (n : ℕ) (w : World) (o : Option World) → after_step c a w ≡ o → ((v : World) → o ≡ Some v → world_after (named_more c more) a n v ≡ world_after c a n v) → option_and_then (world_after (named_more c more) a n) o ≡ option_and_then (world_after c a n) o
after_by c more a n w None at h = refl
after_by c more a n w (Some v) at h = h v refl

after_same : (c : Constants) (more : List (List ℕ)) (a : ActorId) (n : ℕ) (w : World) → IsWorld c w → world_after (named_more c more) a n w ≡ world_after c a n w
after_same c more a zero w h = refl
after_same c more a (suc n) w h =
    ap (λ (o : Option World). option_and_then (world_after (named_more c more) a n) o) (stepped_same c more a w h)
    ∙ after_by c more a n w (after_step c a w) refl (λ v e. after_same c more a n v (stepped_keeps c a w v h e).world)

ran_same : (c : Constants) (more : List (List ℕ)) (w : World) (a : ActorId) (n : ℕ) → IsWorld c w → after_run (named_more c more) w a n ≡ after_run c w a n
ran_same c more w a n h = ran_after (named_more c more) w a n ∙ ap (λ (o : Option World). cond (nat_lt 0 n) o None) (after_same c more a n w h) ∙ sym (ran_after c w a n)

-- ---- items

next_more : (c : Constants) (more : List (List ℕ)) (w v : World) (i : Item) → IsWorld c w → next c w i ≡ Some v → next (named_more c more) w i ≡ Some v
next_more c more w v (Edited e) h f = edited_more c more w v e f
next_more c more w v (Created class) h f = f
next_more c more w v (Posted a m) h f = posted_more c more w v a m f
next_more c more w v (Closed a) h f = f
next_more c more w v (Begun a) h f = f
next_more c more w v (Ran a n) h f = ran_same c more w a n h ∙ f

pub replay_more : (c : Constants) (more : List (List ℕ)) (w u : World) (is : List Item) → IsWorld c w → All IsSoundItem is → replay c w is ≡ Some u → replay (named_more c more) w is ≡ Some u
replay_more c more w u [] h all e = e
replay_more c more w u (i ∷ is) h all e =
    let p = bound (λ v. replay c v is) (next c w i) u e in
    ap (λ (o : Option World). option_and_then (λ v. replay (named_more c more) v is) o) (next_more c more w p.0 i h p.1)
    ∙ replay_more c more p.0 u is (next_keeps c w p.0 i h (All-head IsSoundItem i is all) p.1).world (All-tail IsSoundItem i is all) p.2

-- more names leave the world of a lawful history
pub world_more : (c : Constants) (more : List (List ℕ)) (base : World) (h : List Item) → IsWorld c base → All IsSoundItem h → replay c base h ≡ Some (world_of c base h) → (replay (named_more c more) base h ≡ Some (world_of (named_more c more) base h)) × (world_of (named_more c more) base h ≡ world_of c base h)
unfolding world_of
world_more c more base h k all l =
    let r : replay (named_more c more) base h ≡ Some (world_of c base h) = replay_more c more base (world_of c base h) h k all l in
    let e : world_of (named_more c more) base h ≡ world_of c base h = ap (λ (o : Option World). unwrap_or o base) r in
    (r ∙ ap Some (sym e), e)
