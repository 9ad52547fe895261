-- Each item keeps an image the replay of its history.
use Rattle.std.proofs.Common.{arith, ◌≡◌, ℕ, ◌+◌, ◌<◌, ◌≤◌, ◌++◌, [], ◌∷◌, List, length, Option, Some, None, Bool, true, false, cond, refl, ap, sym, ◌∙◌, subst, slice_get, nat_lt, length-append}
use Rattle.std.specs.Prelude.{All, not, ◌&&◌, is_none}
use Rattle.std.specs.Option.{option_map}
use Rattle.std.proofs.lemmas.Bool.{and_from, not-false}
use Rattle.std.proofs.lemmas.Bool.Decides.{nat_tests}
use Rattle.std.proofs.lemmas.List.Elements.{All-push, All-weaker}
use Rattle.st_classes.specs.declared.values.ClassId.{ClassId}
use Rattle.st_classes.specs.declared.values.ActorId.{ActorId}
use Rattle.st_classes.specs.declared.edits.Edit.{Edit}
use Rattle.st_classes.specs.declared.refusals.Refusal.{Refusal}
use Rattle.st_classes.specs.Refusals.{Rule, first_of}
use Rattle.st_classes.specs.Classes.{is_class}
use Rattle.st_classes.specs.EditRules.{is_value_class, edit_rules}
use Rattle.st_classes.specs.MethodSuits.{edit_suits}
use Rattle.st_classes.specs.EditLists.{IsSoundEdit}
use Rattle.st_turn.specs.declared.body.Body.{Body}
use Rattle.st_turn.specs.declared.body.Phase.TheVariants.{Fresh}
use Rattle.st_turn.specs.Objects.{new_object}
use Rattle.st_turn.specs.BodyFits.{has_instances}
use Rattle.st_mailbox.specs.declared.messages.Message.{Message}
use Rattle.st_mailbox.specs.declared.messages.Sender.{Sender}
use Rattle.st_mailbox.specs.declared.messages.Sender.TheVariants.{Client, Actor}
use Rattle.st_image.specs.declared.settings.Settings.{Settings}
use Rattle.st_image.specs.declared.history.Item.{Item}
use Rattle.st_image.specs.declared.history.Item.TheVariants.{Edited, Created, Posted, Closed, Begun, Ran}
use Rattle.st_image.specs.Worlds.{Constants, World, WorldActor, change, change_at, pending}
use Rattle.st_image.specs.PostRules.{IsClients, post_rules}
use Rattle.st_image.specs.Replay.{with_accepted, with_begun, new_world_actor, next, next_message, only_if, with_last, with_new}
use Rattle.st_image.specs.Counts.{edits_of}
use Rattle.st_image.specs.Images.{world_of, edits_in}
use Rattle.st_image.specs.WorldInvariant.{HaveTurns, IsWorldActor, IsSoundItem, IsWorld}
use Rattle.st_image.specs.ActorViews.{ActorView, Shows, view_begins, view_after_begin, actor_view, new_actor_view, view_with_message}
use Rattle.st_image.specs.ActResults.{constants_of, world_after}
use Rattle.st_image.specs.ImageInvariant.{IsImage}
use Rattle.st_image.proofs.CountingItems.{weigh_append}
use Rattle.st_image.proofs.Lists.{off}
use Rattle.st_image.proofs.Places.{at_all}
use Rattle.st_image.proofs.Changing.{All-change}
use Rattle.st_image.proofs.Replays.{lawful_push}
use Rattle.st_image.proofs.Stepping.{ran_after}
use Rattle.st_image.proofs.Lasting.{KeepsWorld, next_keeps}
use Rattle.st_image.proofs.Deliveries.{IsNextMessage, next_is}
use Rattle.st_image.proofs.Showing.{kept_accepting, kept_beginning, shows_change, shows_push}

-- ---- an item more

-- each mailbox has accepted at most so many messages
abbrev pub AcceptAtMost : ℕ → List ActorView → Type 0
AcceptAtMost n actors = All (λ (k : ActorView). k.accepted ≤ n) actors

pub accept_more : (n : ℕ) (actors : List ActorView) → AcceptAtMost n actors → AcceptAtMost (n + 1) actors
accept_more n actors h = All-weaker (λ (k : ActorView). k.accepted ≤ n) (λ (k : ActorView). k.accepted ≤ n + 1) (λ k l. omega arith) actors h

-- an image with an item more, and its world
pub record IsNext (base : World) (names : List (List ℕ)) (edits : List Edit) (actors : List ActorView) (h : List Item) (made : ℕ) (s : Settings) (v : World) : Type 0 where
  pub image : IsImage base names edits actors h made s
  pub world : world_of (constants_of names s.capacity) base h ≡ v

pub pushed : (base : World) (names : List (List ℕ)) (edits edits' : List Edit) (actors actors' : List ActorView) (h : List Item) (made made' : ℕ) (s : Settings) (i : Item) (v : World)
    → IsImage base names edits actors h made s → IsSoundItem i → next (constants_of names s.capacity) (world_of (constants_of names s.capacity) base h) i ≡ Some v → Shows edits' actors' v → made' ≡ made + edits_in (i ∷ []) → length h + 1 ≤ s.history → AcceptAtMost (length h + 1024 + 1) actors'
    → IsNext base names edits' actors' (h ++ i ∷ []) made' s v
pushed base names edits edits' actors actors' h made made' s i v k sound n shows count room acc =
    let c : Constants = constants_of names s.capacity in
    let both = lawful_push c base h i v k.lawful n in
    let keep : KeepsWorld c (world_of c base h) v = next_keeps c (world_of c base h) v i k.world sound n in
    let len : length (h ++ i ∷ []) ≡ length h + 1 = length-append h (i ∷ []) in
    record {
      image = record {
        base_is = k.base_is;
        senders = k.senders;
        sound = All-push IsSoundItem h i k.sound sound;
        lawful = both.0 ∙ ap Some (sym both.1);
        shows = subst (Shows edits' actors') (sym both.1) shows;
        world = subst (IsWorld c) (sym both.1) keep.world;
        turns = subst (HaveTurns base) (sym both.1) (keep.turns base k.turns);
        counted = count ∙ ap (λ (x : ℕ). x + edits_in (i ∷ [])) k.counted ∙ sym (weigh_append edits_of h (i ∷ []));
        numbers = k.numbers;
        few_items = subst (λ (x : ℕ). x ≤ s.history) (sym len) room;
        few_accepted = subst (λ (x : ℕ). AcceptAtMost x actors') (omega (arith, len)) acc;
      };
      world = both.1;
    }

-- what a condition that is met lets through
pub through : (b : Bool) (w : World) → b ≡ true → only_if b w ≡ Some w
through true w e = refl
through false w e = cc

pub none_is_none : (o : Option Refusal) → o ≡ None → is_none o ≡ true
none_is_none None e = refl
none_is_none (Some x) e = cc

-- the room that no refusal for a full history leaves
pub has_room : (limit n m : ℕ) (e : Refusal) → first_of ((nat_lt limit (n + m), e) ∷ []) ≡ None → n + m ≤ limit
has_room limit n m e h = let o : (nat_lt limit (n + m) ≡ false) × (first_of [] ≡ None) = off _ e [] h in let f : nat_lt limit (n + m) ≡ false = o.0 in grind (arith, nat_tests)

-- the same, before other rules
pub first_room : (limit n m : ℕ) (e : Refusal) (rules : List Rule) → first_of ((nat_lt limit (n + m), e) ∷ rules) ≡ None → n + m ≤ limit
first_room limit n m e rules h = let f : nat_lt limit (n + m) ≡ false = (off (nat_lt limit (n + m)) e rules h).0 in grind (arith, nat_tests)

pub being_at : (c : Constants) (w : World) (a : ℕ) (b : WorldActor) → IsWorld c w → slice_get w.actors a ≡ Some b → IsWorldActor c.names w.edits (length w.actors) b
being_at c w a b h e = at_all (IsWorldActor c.names w.edits (length w.actors)) w.actors a b h.actors e

-- ---- a new actor

-- the body of a new actor
abbrev pub fresh_body : List Edit → ClassId → Body
fresh_body edits class = record { objects = new_object edits class ∷ []; phase = Fresh }

pub has_instances_by : (edits : List Edit) (c : ClassId) → not (is_class edits c) ≡ false → is_value_class c ≡ false → has_instances edits c ≡ true
has_instances_by edits c h k = and_from (is_class edits c) (not (is_value_class c)) (not-false (is_class edits c) h) (ap not k)

pub created_kept : (base : World) (names : List (List ℕ)) (edits : List Edit) (actors actors' : List ActorView) (h : List Item) (made : ℕ) (s : Settings) (class : ClassId)
    → IsImage base names edits actors h made s → has_instances edits class ≡ true → length h + 1 ≤ s.history → actors' ≡ actors ++ new_actor_view class s.capacity (fresh_body edits class) ∷ []
    → IsNext base names edits actors' (h ++ Created class ∷ []) made s (with_new (constants_of names s.capacity) class (world_of (constants_of names s.capacity) base h))
created_kept base names edits actors actors' h made s class k inst room e =
    let c : Constants = constants_of names s.capacity in
    let w : World = world_of c base h in
    let b : WorldActor = new_world_actor w.edits class s.capacity in
    let inst' : has_instances w.edits class ≡ true = subst (λ (es : List Edit). has_instances es class ≡ true) k.shows.edits_are inst in
    let now : next c w (Created class) ≡ Some (with_new c class w) = through (has_instances w.edits class) (with_new c class w) inst' in
    let here : actors' ≡ actors ++ actor_view b ∷ [] = e ∙ ap (λ (es : List Edit). actors ++ new_actor_view class s.capacity (fresh_body es class) ∷ []) k.shows.edits_are in
    let acc : AcceptAtMost (length h + 1024 + 1) (actors ++ actor_view b ∷ []) = All-push (λ (x : ActorView). x.accepted ≤ length h + 1024 + 1) actors (actor_view b) (accept_more (length h + 1024) actors k.few_accepted) (omega arith) in
    pushed base names edits edits actors actors' h made made s (Created class) (with_new c class w) k tt now (shows_push edits actors actors' w (with_new c class w) b k.shows refl refl here) (omega arith) room (subst (AcceptAtMost (length h + 1024 + 1)) (sym here) acc)

-- ---- a client's message

shows_last : (edits : List Edit) (actors : List ActorView) (w : World) (s : Sender) (n : ℕ) → IsClients s → Shows edits actors w → Shows edits actors (with_last s n w)
shows_last edits actors w (Client s) n h k = record { edits_are = k.edits_are; actors_are = k.actors_are }
shows_last edits actors w (Actor a) n h k = absurd h

pub take_in_accepts : (n : ℕ) (actors : List ActorView) (m : Message) (a : ℕ) → AcceptAtMost n actors → AcceptAtMost (n + 1) (change_at (view_with_message m) a actors)
take_in_accepts n actors m a h = All-change (λ (k : ActorView). k.accepted ≤ n + 1) (view_with_message m) a actors (λ k at l. let few : k.accepted ≤ n = at_all (λ (x : ActorView). x.accepted ≤ n) actors a k h at in omega arith) (accept_more n actors h)

pub posted_kept : (base : World) (names : List (List ℕ)) (edits : List Edit) (actors actors' : List ActorView) (h : List Item) (made : ℕ) (s : Settings) (a : ActorId) (m : Message)
    → IsImage base names edits actors h made s → first_of (post_rules names (world_of (constants_of names s.capacity) base h) (slice_get (world_of (constants_of names s.capacity) base h).actors a.0) m) ≡ None → IsClients m.sender → length h + 1 ≤ s.history → actors' ≡ change_at (view_with_message m) a.0 actors
    → IsNext base names edits actors' (h ++ Posted a m ∷ []) made s (with_last m.sender m.seq (change (with_accepted m) a (world_of (constants_of names s.capacity) base h)))
posted_kept base names edits actors actors' h made s a m k allowed client room e =
    let c : Constants = constants_of names s.capacity in
    let w : World = world_of c base h in
    let v : World = with_last m.sender m.seq (change (with_accepted m) a w) in
    let now : next c w (Posted a m) ≡ Some v = through (is_none (first_of (post_rules names w (slice_get w.actors a.0) m))) v (none_is_none (first_of (post_rules names w (slice_get w.actors a.0) m)) allowed) in
    let one : Shows edits actors' (change (with_accepted m) a w) = shows_change edits actors actors' w a (with_accepted m) (view_with_message m) k.shows (λ b at. kept_accepting m b (being_at c w a.0 b k.world at).begins) e in
    pushed base names edits edits actors actors' h made made s (Posted a m) v k tt now (shows_last edits actors' (change (with_accepted m) a w) m.sender m.seq client one) (omega arith) room (subst (AcceptAtMost (length h + 1024 + 1)) (sym e) (take_in_accepts (length h + 1024) actors m a.0 k.few_accepted))

-- ---- a message begins

pub begins_kept : (c : Constants) (edits : List Edit) (actors actors' : List ActorView) (w : World) (a : ActorId) (m : Message) → Shows edits actors w → next_message (slice_get w.actors a.0) ≡ Some m → actors' ≡ change_at view_after_begin a.0 actors → Shows edits actors' (change (with_begun m) a w)
begins_kept c edits actors actors' w a m shows first e =
    let n : IsNextMessage (slice_get w.actors a.0) m = next_is (slice_get w.actors a.0) m first in
    shows_change edits actors actors' w a (with_begun m) view_after_begin shows (λ b at.
    let same : n.being ≡ b = same_being n.being b (sym n.there ∙ at) in
    kept_beginning m b n.rest (subst (λ (x : WorldActor). pending x ≡ m ∷ n.rest) same n.first)) e
  where
    same_being : (b d : WorldActor) → Some b ≡ Some d → b ≡ d
    same_being b d f = cc

pub begun_kept : (base : World) (names : List (List ℕ)) (edits : List Edit) (actors actors' : List ActorView) (h : List Item) (made : ℕ) (s : Settings) (a : ActorId) (m : Message)
    → IsImage base names edits actors h made s → next_message (slice_get (world_of (constants_of names s.capacity) base h).actors a.0) ≡ Some m → length h + 1 ≤ s.history → actors' ≡ change_at view_after_begin a.0 actors
    → IsNext base names edits actors' (h ++ Begun a ∷ []) made s (change (with_begun m) a (world_of (constants_of names s.capacity) base h))
begun_kept base names edits actors actors' h made s a m k first room e =
    let c : Constants = constants_of names s.capacity in
    let w : World = world_of c base h in
    let now : next c w (Begun a) ≡ Some (change (with_begun m) a w) = ap (option_map (λ n. change (with_begun n) a w)) first in
    let same : (x : ActorView) → x.accepted ≤ length h + 1024 + 1 → (view_after_begin x).accepted ≤ length h + 1024 + 1 = λ x l. begun_accepts x x.pending (length h + 1024 + 1) l in
    pushed base names edits edits actors actors' h made made s (Begun a) (change (with_begun m) a w) k tt now (begins_kept c edits actors actors' w a m k.shows first e) (omega arith) room (subst (AcceptAtMost (length h + 1024 + 1)) (sym e) (All-change (λ (x : ActorView). x.accepted ≤ length h + 1024 + 1) view_after_begin a.0 actors (λ x at l. same x l) (accept_more (length h + 1024) actors k.few_accepted)))
  where
    begun_accepts : (x : ActorView) (ms : List Message) (n : ℕ) → x.accepted ≤ n → (view_begins x ms).accepted ≤ n
    begun_accepts x [] n l = l
    begun_accepts x (m ∷ ms) n l = l

-- ---- steps

pub ran_kept : (base : World) (names : List (List ℕ)) (edits : List Edit) (actors actors' : List ActorView) (h : List Item) (made : ℕ) (s : Settings) (a : ActorId) (n : ℕ) (v : World)
    → IsImage base names edits actors h made s → 0 < n → world_after (constants_of names s.capacity) a n (world_of (constants_of names s.capacity) base h) ≡ Some v → length h + 1 ≤ s.history → Shows edits actors' v → AcceptAtMost (length h + 1024 + 1) actors'
    → IsNext base names edits actors' (h ++ Ran a n ∷ []) made s v
ran_kept base names edits actors actors' h made s a n v k some taken room shows acc =
    let c : Constants = constants_of names s.capacity in
    let w : World = world_of c base h in
    let positive : nat_lt 0 n ≡ true = grind (arith, nat_tests) in
    let now : next c w (Ran a n) ≡ Some v = ran_after c w a n ∙ ap (λ (b : Bool). cond b (world_after c a n w) None) positive ∙ taken in
    pushed base names edits edits actors actors' h made made s (Ran a n) v k tt now shows (omega arith) room acc

-- ---- an edit

pub edited_kept : (base : World) (names : List (List ℕ)) (edits edits' : List Edit) (actors : List ActorView) (h : List Item) (made made' : ℕ) (s : Settings) (e : Edit)
    → IsImage base names edits actors h made s → IsSoundEdit e → first_of (edit_rules edits e) ≡ None → edit_suits names edits e ≡ true → length h + 1 ≤ s.history → edits' ≡ edits ++ e ∷ [] → made' ≡ made + 1
    → IsNext base names edits' actors (h ++ Edited e ∷ []) made' s (record (world_of (constants_of names s.capacity) base h) { edits = edits' })
edited_kept base names edits edits' actors h made made' s e k sound allowed suits room after count =
    let c : Constants = constants_of names s.capacity in
    let w : World = world_of c base h in
    let v : World = record w { edits = edits' } in
    let same : edits ≡ w.edits = k.shows.edits_are in
    let ok : (is_none (first_of (edit_rules w.edits e)) && edit_suits names w.edits e) ≡ true = subst (λ (es : List Edit). (is_none (first_of (edit_rules es e)) && edit_suits names es e) ≡ true) same (and_from (is_none (first_of (edit_rules edits e))) (edit_suits names edits e) (none_is_none (first_of (edit_rules edits e)) allowed) suits) in
    let last : w.edits ++ e ∷ [] ≡ edits' = ap (λ (es : List Edit). es ++ e ∷ []) (sym same) ∙ sym after in
    let now : next c w (Edited e) ≡ Some v = through (is_none (first_of (edit_rules w.edits e)) && edit_suits names w.edits e) (record w { edits = w.edits ++ e ∷ [] }) ok ∙ ap (λ (es : List Edit). Some (record w { edits = es })) last in
    let shows : Shows edits' actors v = record { edits_are = refl; actors_are = k.shows.actors_are } in
    pushed base names edits edits' actors actors h made made' s (Edited e) v k sound now shows (omega (arith, count)) room (accept_more (length h + 1024) actors k.few_accepted)

-- ---- how many edits there are

pub edits_few : (h : List Item) → edits_in h ≤ length h
edits_few [] = omega arith
edits_few (Edited e ∷ is) = omega (arith, edits_few is)
edits_few (Created c ∷ is) = omega (arith, edits_few is)
edits_few (Posted a m ∷ is) = omega (arith, edits_few is)
edits_few (Closed a ∷ is) = omega (arith, edits_few is)
edits_few (Begun a ∷ is) = omega (arith, edits_few is)
edits_few (Ran a n ∷ is) = omega (arith, edits_few is)
