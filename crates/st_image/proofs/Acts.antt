-- What the parts of an image show after posts and acts.
use Rattle.std.proofs.Common.{arith, ◌≡◌, ℕ, ◌+◌, ◌-◌, ◌^◌, ◌<◌, ◌≤◌, ◌++◌, [], ◌∷◌, List, length, Option, Some, None, Ok, Bool, true, false, cond, refl, ap, sym, ◌∙◌, subst, slice_get, IfNone, is_some}
use Rattle.std.specs.Prelude.{All, not, nat_le, nat_lt, is_none}
use Rattle.std.proofs.lemmas.Bool.Decides.{nat_tests}
use Rattle.std.proofs.lemmas.List.Elements.{All-push}
use Rattle.st_classes.specs.declared.values.ActorId.{ActorId}
use Rattle.st_classes.specs.declared.values.ClassId.{ClassId}
use Rattle.st_classes.specs.declared.values.Selector.{Selector}
use Rattle.st_classes.specs.declared.values.Value.{Value}
use Rattle.st_classes.specs.declared.values.Value.TheVariants.{Bool as Boolean, Actor as Reference}
use Rattle.st_classes.specs.declared.faults.Fault.TheVariants.{BadArgument, TooManyActors}
use Rattle.st_classes.specs.declared.edits.Edit.{Edit}
use Rattle.st_classes.specs.declared.refusals.Refusal.TheVariants.{BadArguments}
use Rattle.st_classes.specs.Refusals.{Rule, first_of}
use Rattle.st_classes.specs.EditRules.{is_value_class}
use Rattle.st_classes.specs.Classes.{class_count}
use Rattle.st_turn.specs.declared.body.Body.{Body}
use Rattle.st_mailbox.specs.declared.messages.Message.{Message}
use Rattle.st_mailbox.specs.declared.messages.Sender.TheVariants.{Actor}
use Rattle.st_image.specs.Worlds.{Constants, World, WorldActor, change, change_at}
use Rattle.st_image.specs.PostRules.{message_fits, message_suits, number_rule, post_rules}
use Rattle.st_mailbox.specs.Mailboxes.{box_rules}
use Rattle.st_image.specs.Replay.{ActResult, with_accepted, after_close, create_result, failed_act, is_open_at, new_world_actor, only_if, after_post, after_post_by, attempted_act, with_last, with_new}
use Rattle.st_image.specs.ClaimsOut.{claims_of}
use Rattle.st_image.specs.ActorViews.{Accepts, ActorView, ActorsView, SameOut, Shows, actor_view, new_actor_view, view_with_message}
use Rattle.st_image.specs.ActResults.{Does, GrowsByOne, IsShown, Tries, constants_of}
use Rattle.st_image.proofs.Lists.{off_append}
use Rattle.st_image.proofs.Changing.{All-change}
use Rattle.st_image.proofs.FreeOnes.{index_push}
use Rattle.st_image.proofs.Showing.{being_at_kept, count_is, kept_accepting, kept_at, shows_change, shows_push}
use Rattle.st_image.proofs.Keeping.{accept_more, being_at, fresh_body, none_is_none, take_in_accepts, through}

pub if_none : {X : Type 0} (o : Option X) (P : Type 0) → P → IfNone o P
if_none None P p = p
if_none (Some x) P p = tt

pub none_by : {X : Type 0} (o : Option X) → is_some o ≡ false → o ≡ None
none_by None e = refl
none_by (Some x) e = cc

pub when_none : {X : Type 0} (o : Option X) (P : Type 0) → o ≡ None → IfNone o P → P
when_none None P e h = h
when_none (Some x) P e h = cc

pub some_kept : (j k : ActorView) → Some j ≡ Some k → j ≡ k
some_kept j k e = cc

-- ---- why a message is refused

-- the refusals of the mailbox of an actor that is kept
abbrev pub kept_box_rules : ActorView → List Rule
kept_box_rules k = box_rules k.is_open k.capacity (length k.pending)

rules_of : (names : List (List ℕ)) (w : World) (m : Message) (o : Option WorldActor) (b : WorldActor) (k : ActorView) → o ≡ Some b → actor_view b ≡ k → first_of (post_rules names w o m) ≡ first_of ((not (message_suits names w m), BadArguments) ∷ number_rule w m.sender m.seq ∷ kept_box_rules k)
rules_of names w m o b k e same = ap (λ (x : Option WorldActor). first_of (post_rules names w x m)) e ∙ ap (λ (x : ActorView). first_of ((not (message_suits names w m), BadArguments) ∷ number_rule w m.sender m.seq ∷ kept_box_rules x)) same

-- the rules of a post to an actor that is kept
pub rules_kept : (names : List (List ℕ)) (edits : List Edit) (actors : List ActorView) (w : World) (a : ActorId) (k : ActorView) (m : Message) → Shows edits actors w → slice_get actors a.0 ≡ Some k → first_of (post_rules names w (slice_get w.actors a.0) m) ≡ first_of ((not (message_fits names (class_count edits) (length actors) m), BadArguments) ∷ number_rule w m.sender m.seq ∷ kept_box_rules k)
rules_kept names edits actors w a k m s at =
    let b = being_at_kept edits actors w a.0 k s at in
    let same : message_suits names w m ≡ message_fits names (class_count edits) (length actors) m = ap (λ (n : ℕ). message_fits names (class_count w.edits) n m) (sym (count_is edits actors w s)) ∙ ap (λ (es : List Edit). message_fits names (class_count es) (length actors) m) (sym s.edits_are) in
    rules_of names w m (slice_get w.actors a.0) b.0 k b.1 b.2 ∙ ap (λ (t : Bool). first_of ((not t, BadArguments) ∷ number_rule w m.sender m.seq ∷ kept_box_rules k)) same

-- a mailbox takes a message that no rule refuses
pub accepts_by : (names : List (List ℕ)) (edits : List Edit) (actors : List ActorView) (w : World) (a : ActorId) (m : Message) → Shows edits actors w → first_of (post_rules names w (slice_get w.actors a.0) m) ≡ None → Accepts actors a
accepts_by names edits actors w a m s allowed = λ k at.
    (off_append ((not (message_fits names (class_count edits) (length actors) m), BadArguments) ∷ number_rule w m.sender m.seq ∷ []) (kept_box_rules k) (sym (rules_kept names edits actors w a k m s at) ∙ allowed)).1

-- ---- posts of an actor

tries_some : (edits : List Edit) (after : List ActorView) (w v : World) (o : Option World) → o ≡ Some v → Shows edits after v → Tries edits after w o true
tries_some edits after w v o e s = (subst (λ (x : Option World). Shows edits after (attempted_act w x).world) (sym e) s, ap is_some e)

-- the message that an actor posts
abbrev pub message_of : ActorId → ℕ → Selector → List Value → Message
message_of a n s args = record { sender = Actor a; seq = n; selector = s; args = args }

posted_in : (c : Constants) (to : ActorId) (s : Selector) (args : List Value) (a : ActorId) (w : World) (o : Option WorldActor) (b : WorldActor) (n : ℕ) → o ≡ Some b → b.last < 2 ^ 64 - 1 → n ≡ b.last + 1
    → first_of (post_rules c.names w (slice_get w.actors to.0) (message_of a n s args)) ≡ None
    → after_post_by c to s args a w o ≡ Some (with_last (Actor a) n (change (with_accepted (message_of a n s args)) to w))
posted_in c to s args a w o b n e low next allowed =
    let below : nat_lt b.last (2 ^ 64 - 1) ≡ true = grind (arith, nat_tests) in
    ap (after_post_by c to s args a w) e ∙ ap (λ (t : Bool). cond t (after_post c w to (message_of a (b.last + 1) s args)) None) below ∙ ap (λ (x : ℕ). after_post c w to (message_of a x s args)) (sym next) ∙ through (is_none (first_of (post_rules c.names w (slice_get w.actors to.0) (message_of a n s args)))) (with_last (Actor a) n (change (with_accepted (message_of a n s args)) to w)) (none_is_none (first_of (post_rules c.names w (slice_get w.actors to.0) (message_of a n s args))) allowed)

-- a post that nothing refuses
pub post_tries : (names : List (List ℕ)) (capacity : ℕ) (edits : List Edit) (actors middle after : List ActorView) (w : World) (a to : ActorId) (s : Selector) (args : List Value) (k : ActorView) (n : ℕ) → IsShown names capacity edits actors w → slice_get actors a.0 ≡ Some k → k.last < 2 ^ 64 - 1 → n ≡ k.last + 1
    → first_of (post_rules names w (slice_get w.actors to.0) (message_of a n s args)) ≡ None
    → middle ≡ change_at (view_with_message (message_of a n s args)) to.0 actors → after ≡ change_at (λ (x : ActorView). record x { last = n }) a.0 middle
    → Tries edits after w (after_post_by (constants_of names capacity) to s args a w (slice_get w.actors a.0)) true
post_tries names capacity edits actors middle after w a to s args k n i at low next allowed one two =
    let m : Message = message_of a n s args in
    let b = being_at_kept edits actors w a.0 k i.shows at in
    let same : b.0.last ≡ k.last = ap (λ (x : ActorView). x.last) b.2 in
    let taken : Shows edits middle (change (with_accepted m) to w) = shows_change edits actors middle w to (with_accepted m) (view_with_message m) i.shows (λ d there. kept_accepting m d (being_at (constants_of names capacity) w to.0 d i.world there).begins) one in
    let last : Shows edits after (with_last (Actor a) n (change (with_accepted m) to w)) = shows_change edits middle after (change (with_accepted m) to w) a (λ (x : WorldActor). record x { last = n }) (λ (x : ActorView). record x { last = n }) taken (λ d there. refl) two in
    tries_some edits after w (with_last (Actor a) n (change (with_accepted m) to w)) (after_post_by (constants_of names capacity) to s args a w (slice_get w.actors a.0)) (posted_in (constants_of names capacity) to s args a w (slice_get w.actors a.0) b.0 n b.1 (omega (arith, same, low)) (next ∙ ap (λ (x : ℕ). x + 1) (sym same)) allowed) last

-- the mailboxes after a post
pub post_grows : (actors middle after : List ActorView) (m : Message) (to a : ℕ) (n : ℕ) → middle ≡ change_at (view_with_message m) to actors → after ≡ change_at (λ (x : ActorView). record x { last = n }) a middle → GrowsByOne actors after
post_grows actors middle after m to a n one two = λ bound h.
    let taken : All (λ (k : ActorView). k.accepted ≤ bound + 1) middle = subst (All (λ (k : ActorView). k.accepted ≤ bound + 1)) (sym one) (take_in_accepts bound actors m to h) in
    subst (All (λ (k : ActorView). k.accepted ≤ bound + 1)) (sym two) (All-change (λ (k : ActorView). k.accepted ≤ bound + 1) (λ (x : ActorView). record x { last = n }) a middle (λ k at l. l) taken)

-- ---- new actors

-- an actor of this class is made
pub create_does : (names : List (List ℕ)) (capacity : ℕ) (edits : List Edit) (actors after : List ActorView) (w : World) (class : ClassId) (n : ℕ) → IsShown names capacity edits actors w → is_value_class class ≡ false → length actors < 65536 → n ≡ length actors
    → after ≡ actors ++ new_actor_view class capacity (fresh_body edits class) ∷ [] → Does edits after (create_result (constants_of names capacity) class w) (Ok (Reference (record { 0 = n })))
create_does names capacity edits actors after w class n i open' few number put =
    let c : Constants = constants_of names capacity in
    let made : ActResult = record { world = with_new c class w; answer = Ok (Reference (record { 0 = length w.actors })) } in
    let count : length actors ≡ length w.actors = count_is edits actors w i.shows in
    let room : nat_le 65536 (length w.actors) ≡ false = no_more (length actors) (length w.actors) count few in
    let here : after ≡ actors ++ new_actor_view class capacity (fresh_body w.edits class) ∷ [] = put ∙ ap (λ (es : List Edit). actors ++ new_actor_view class capacity (fresh_body es class) ∷ []) i.shows.edits_are in
    let e : create_result c class w ≡ made = ap (λ (t : Bool). cond t (failed_act w BadArgument) (cond (nat_le 65536 (length w.actors)) (failed_act w TooManyActors) made)) open' ∙ ap (λ (t : Bool). cond t (failed_act w TooManyActors) made) room in
    subst (λ (d : ActResult). Does edits after d (Ok (Reference (record { 0 = n })))) (sym e) (shows_push edits actors after w (with_new c class w) (new_world_actor w.edits class capacity) i.shows refl refl here, ap (λ (x : ℕ). Ok (Reference (record { 0 = x }))) (sym (number ∙ count)))
  where
    no_more : (m n : ℕ) → m ≡ n → m < 65536 → nat_le 65536 n ≡ false
    no_more m n e h = grind (arith, nat_tests)

pub create_grows : (actors after : List ActorView) (class : ClassId) (capacity : ℕ) (body : Body) → after ≡ actors ++ new_actor_view class capacity body ∷ [] → GrowsByOne actors after
create_grows actors after class capacity body put = λ bound h. subst (All (λ (k : ActorView). k.accepted ≤ bound + 1)) (sym put) (All-push (λ (k : ActorView). k.accepted ≤ bound + 1) actors (new_actor_view class capacity body) (accept_more bound actors h) (omega arith))

-- ---- closing

tried_true : (edits : List Edit) (after : List ActorView) (w v : World) (o : Option World) → o ≡ Some v → Shows edits after v → Does edits after (attempted_act w o) (Ok (Boolean true))
tried_true edits after w v o e s = subst (λ (x : Option World). Does edits after (attempted_act w x) (Ok (Boolean true))) (sym e) (s, refl)

tried_false : (edits : List Edit) (after : List ActorView) (w : World) (o : Option World) → o ≡ None → Shows edits after w → Does edits after (attempted_act w o) (Ok (Boolean false))
tried_false edits after w o e s = subst (λ (x : Option World). Does edits after (attempted_act w x) (Ok (Boolean false))) (sym e) (s, refl)

not_closed : (o : Option WorldActor) (w v : World) → is_open_at o ≡ false → only_if (is_open_at o) v ≡ None
not_closed o w v e = ap (λ (t : Bool). only_if t v) e

-- an open mailbox closes
pub close_does : (names : List (List ℕ)) (capacity : ℕ) (edits : List Edit) (actors after : List ActorView) (w : World) (to : ActorId) (k : ActorView) → IsShown names capacity edits actors w → slice_get actors to.0 ≡ Some k → k.is_open ≡ true → after ≡ change_at (λ (x : ActorView). record x { is_open = false }) to.0 actors → Does edits after (attempted_act w (after_close w to)) (Ok (Boolean true))
close_does names capacity edits actors after w to k i at open' put =
    let b = being_at_kept edits actors w to.0 k i.shows at in
    let is : is_open_at (slice_get w.actors to.0) ≡ true = ap is_open_at b.1 ∙ ap (λ (x : ActorView). x.is_open) b.2 ∙ open' in
    let v : World = change (λ (x : WorldActor). record x { is_open = false }) to w in
    tried_true edits after w v (after_close w to) (through (is_open_at (slice_get w.actors to.0)) v is) (shows_change edits actors after w to (λ (x : WorldActor). record x { is_open = false }) (λ (x : ActorView). record x { is_open = false }) i.shows (λ b there. refl) put)

-- one that is closed or not there does not
pub close_not : (names : List (List ℕ)) (capacity : ℕ) (edits : List Edit) (actors : List ActorView) (w : World) (to : ActorId) (o : Option ActorView) → IsShown names capacity edits actors w → slice_get actors to.0 ≡ o → ((k : ActorView) → o ≡ Some k → k.is_open ≡ false) → Does edits actors (attempted_act w (after_close w to)) (Ok (Boolean false))
close_not names capacity edits actors w to o i at shut =
    let is : is_open_at (slice_get w.actors to.0) ≡ false = open_by (slice_get w.actors to.0) (λ b there. shut (actor_view b) (sym at ∙ kept_at edits actors w to.0 b i.shows there)) in
    tried_false edits actors w (after_close w to) (not_closed (slice_get w.actors to.0) w (change (λ (x : WorldActor). record x { is_open = false }) to w) is) i.shows
  where
    open_by : (p : Option WorldActor) → ((b : WorldActor) → p ≡ Some b → b.is_open ≡ false) → is_open_at p ≡ false
    open_by None h = refl
    open_by (Some b) h = h b refl

pub close_grows : (actors after : List ActorView) (a : ℕ) → after ≡ change_at (λ (x : ActorView). record x { is_open = false }) a actors → GrowsByOne actors after
close_grows actors after a put = λ bound h. subst (All (λ (k : ActorView). k.accepted ≤ bound + 1)) (sym put) (All-change (λ (k : ActorView). k.accepted ≤ bound + 1) (λ (x : ActorView). record x { is_open = false }) a actors (λ k at l. l) (accept_more bound actors h))

-- the actors of two lists that are the same
pub kept_is : (v w : ActorsView) → v ≡ w → v.list ≡ w.list
kept_is v w e = ap (λ (x : ActorsView). x.list) e

-- and the counts of their claims
pub out_same : (v w : ActorsView) → v ≡ w → v.out ≡ w.out
out_same v w e = ap (λ (x : ActorsView). x.out) e

-- as many claims are out, and then the counts are the same
pub then_out : (one two three : List ℕ) → SameOut one two → three ≡ two → SameOut one three
then_out one two three h e = λ b. ap (λ (ns : List ℕ). claims_of ns b) e ∙ h b

-- no claim of a new actor is out
pub pushed_out : (old new : List ℕ) → new ≡ old ++ 0 ∷ [] → SameOut old new
pushed_out old new e = λ b. ap (λ (ns : List ℕ). claims_of ns b) e ∙ index_push old 0 b
