-- Each item keeps what is true of every world, and each turn its message and its result.
use Rattle.std.proofs.Common.{arith, ◌≡◌, ℕ, zero, suc, ◌+◌, ◌<◌, ◌≤◌, ◌++◌, [], ◌∷◌, List, Option, Some, None, Result, Ok, refl, ap, sym, ◌∙◌, subst, length, slice_get, Bool, true, false, append_assoc, append-nil, cond, drop, length-append, le_refl, lt-ltb, nat_le, inl, inr}
use Rattle.std.specs.Prelude.{All, nat_lt, not}
use Rattle.std.specs.List.{list_all, list_any}
use Rattle.std.proofs.lemmas.Bool.Decides.{nat_tests}
use Rattle.std.proofs.lemmas.Bool.{and_parts, and_from}
use Rattle.std.proofs.lemmas.Option.{slice_get_within, slice_get_past}
use Rattle.std.proofs.lemmas.List.Elements.{All-push, All-nil, All-cons}
use Rattle.st_classes.specs.declared.values.ActorId.{ActorId}
use Rattle.st_classes.specs.declared.values.ClassId.{ClassId}
use Rattle.st_classes.specs.declared.values.Selector.{Selector}
use Rattle.st_classes.specs.declared.values.Value.{Value}
use Rattle.st_classes.specs.declared.values.Value.TheVariants.{Int, Bool as Boolean, Nil, Sym, Class, Actor, Local}
use Rattle.st_classes.specs.declared.faults.Fault.{Fault}
use Rattle.st_classes.specs.declared.faults.Fault.TheVariants.{BadArgument, LocalArgument, TooManyActors}
use Rattle.st_classes.specs.declared.edits.Edit.{Edit}
use Rattle.st_classes.specs.Kernel.{kernel_selectors, does_not_understand}
use Rattle.st_classes.specs.Refusals.{first_of}
use Rattle.st_classes.specs.EditRules.{edit_rules, is_value_class}
use Rattle.st_classes.specs.Classes.{class_count, is_class}
use Rattle.st_classes.specs.MethodSuits.{arity_at, is_number}
use Rattle.st_classes.specs.EditLists.{AreLawful, AllSuit, IsSoundEdit}
use Rattle.st_classes.proofs.Accepted.{sound_push}
use Rattle.st_classes.proofs.LawLists.{list_all_weaker, slice_get_kept}
use Rattle.st_classes.proofs.LawGrowing.{there_grows, lawful_with, class_count_grows, number_is, all_suit_with, all_suit_more_names, kernel_names_know}
use Rattle.st_turn.specs.declared.acts.Act.{Act}
use Rattle.st_turn.specs.declared.acts.Act.TheVariants.{Post, Close, Create}
use Rattle.st_turn.specs.declared.body.Body.{Body}
use Rattle.st_turn.specs.declared.body.Object.{Object}
use Rattle.st_turn.specs.declared.body.Outcome.{Outcome}
use Rattle.st_turn.specs.declared.body.Phase.{Phase}
use Rattle.st_turn.specs.declared.body.Phase.TheVariants.{Fresh, Start, Frames, Done}
use Rattle.st_turn.specs.Steps.{Step, next as leads, ended, outer, reply_body, step, step_in}
use Rattle.st_turn.specs.BodyFits.{Referents, Fits, FitsPhase, IsThere, has_instances}
use Rattle.st_turn.specs.Idle.{is_idle}
use Rattle.st_turn.proofs.KeepingValues.{Gives}
use Rattle.st_turn.proofs.KeepingActs.{FitsAct}
use Rattle.st_turn.proofs.Keeping.{FitsStep, step_fits}
use Rattle.st_turn.proofs.KeepingGrowth.{fresh_fits, begin_fits}
use Rattle.st_turn.proofs.Leading.{IsDispatched, Led, LeadsTo, step_leads}
use Rattle.st_mailbox.specs.declared.messages.Message.{Message}
use Rattle.st_mailbox.specs.declared.messages.Sender.{Sender}
use Rattle.st_mailbox.specs.declared.messages.Sender.TheVariants.{Client, Actor as Acting}
use Rattle.st_image.specs.declared.history.Item.{Item}
use Rattle.st_image.specs.declared.history.Item.TheVariants.{Edited, Created, Posted, Closed, Begun, Ran}
use Rattle.st_image.specs.Worlds.{Constants, World, WorldActor, start, change, change_at, pending}
use Rattle.st_image.specs.PostRules.{argument_fits, message_fits}
use Rattle.st_image.specs.Replay.{ActResult as Acted, with_accepted, after_act, after_begin, with_begun, after_close, create_result, after_create, act_result, after_edit, failed_act, is_local, new_world_actor, next, next_message, post_result, after_post, after_post_by, after_step, after_step_of, attempted_act, with_body, with_last, with_new, with_result}
use Rattle.st_image.specs.ActResults.{world_after}
use Rattle.st_image.specs.Starts.{StartsLast}
use Rattle.st_image.specs.WorldInvariant.{AreConstants, given, IsWorldActor, BeginsWithKernel, HasTurns, HaveTurns, first_turn, IsSoundItem, IsWorld}
use Rattle.st_image.proofs.Places.{at_all}
use Rattle.st_image.proofs.PostFacts.{MayPost, may_post, none_from, rules_of}
use Rattle.st_image.proofs.Changing.{All-change, length-change, get-change-any, get-change-back, get-push-back}
use Rattle.st_image.proofs.MoreNames.{fits_more}
use Rattle.st_image.proofs.Stepping.{bound, mapped, cond_some, ran_after}
use Rattle.st_image.proofs.Deliveries.{let_through, IsNextMessage, next_is, accepting_begins, beginning_begins, nothing_begun}
use Rattle.st_image.proofs.Showing.{pending_accepting, pending_beginning}
use Rattle.st_image.proofs.SendingOrder.{number_above, post_there}
use Rattle.st_image.proofs.Starting.{dispatched_is_plain, fitting_is_plain, starts_begun, starts_dispatched, starts_new, starts_same}
use Rattle.st_image.proofs.RisingClients.{put_rises}
use Rattle.st_image.proofs.BodyLaws.{fits_after, fits_given, told_after, told_given, told_later}

-- ---- lists

pub all_map : {X : Type 0} (P Q : X → Type 0) (xs : List X) → ((x : X) → P x → Q x) → All P xs → All Q xs
all_map P Q xs f h = λ k d l. f _ (h k d l)

-- ---- messages, with more classes and actors

argument_later : (names : List (List ℕ)) (classes actors classes' actors' : ℕ) → classes ≤ classes' → actors ≤ actors' → (v : Value) → argument_fits names classes actors v ≡ true → argument_fits names classes' actors' v ≡ true
argument_later names c a c' a' h k v e = there_grows names names c c' a a' 0 0 (le_refl (length names)) h k (le_refl 0) v e

message_later : (names : List (List ℕ)) (classes actors classes' actors' : ℕ) → classes ≤ classes' → actors ≤ actors' → (m : Message) → message_fits names classes actors m ≡ true → message_fits names classes' actors' m ≡ true
message_later names c a c' a' h k m e = let t = and_parts _ _ e in and_from _ _ t.0 (list_all_weaker (argument_fits names c a) (argument_fits names c' a') (argument_later names c a c' a' h k) m.args t.1)

-- ---- one actor

being_after : (names : List (List ℕ)) (edits : List Edit) (n : ℕ) (e : Edit) (b : WorldActor) → AreLawful (edits ++ e ∷ []) → AllSuit names edits → IsWorldActor names edits n b → IsWorldActor names (edits ++ e ∷ []) n b
being_after names edits n e b l r h = record {
  fits = fits_after (given names n) edits e b.body l r h.fits;
  itself = h.itself;
  plain = h.plain;
  some_capacity = h.some_capacity;
  few_messages = h.few_messages;
  within = h.within;
  begins = h.begins;
  told = all_map _ _ b.results (told_after (given names n) edits e b.body.objects) h.told;
  mail = all_map _ _ b.accepted (λ m f. message_later names (class_count edits) n (class_count (edits ++ e ∷ [])) n (class_count_grows edits (e ∷ [])) (omega arith) m f) h.mail;
}

being_given : (names more : List (List ℕ)) (edits : List Edit) (n m : ℕ) (b : WorldActor) → AreLawful edits → AllSuit names edits → n ≤ m → IsWorldActor names edits n b → IsWorldActor (names ++ more) edits m b
being_given names more edits n m b l s k h = record {
  fits = fits_given names more n m edits b.body l s k h.fits;
  itself = h.itself;
  plain = h.plain;
  some_capacity = h.some_capacity;
  few_messages = h.few_messages;
  within = h.within;
  begins = h.begins;
  told = all_map _ _ b.results (told_given names more n m edits b.body.objects k) h.told;
  mail = all_map _ _ b.accepted (λ x f. fits_more names more (class_count edits) m x (message_later names (class_count edits) n (class_count edits) m (omega arith) k x f)) h.mail;
}

being_more : (names : List (List ℕ)) (edits : List Edit) (n m : ℕ) (b : WorldActor) → AreLawful edits → AllSuit names edits → n ≤ m → IsWorldActor names edits n b → IsWorldActor names edits m b
being_more names edits n m b l s k h = subst (λ (ns : List (List ℕ)). IsWorldActor ns edits m b) (append-nil names) (being_given names [] edits n m b l s k h)

-- ---- worlds

-- what a change of one actor keeps: it is an actor, its turns have their results, and it dispatches what it has begun
pub record Lasts (names : List (List ℕ)) (edits : List Edit) (n : ℕ) (b d : WorldActor) : Type 0 where
  pub being : IsWorldActor names edits n d
  pub turns : length d.results + cond (is_idle d.body.phase) 0 1 + length b.begun ≡ length b.results + cond (is_idle b.body.phase) 0 1 + length d.begun
  pub starts : (base : Option WorldActor) → StartsLast base b → StartsLast base d

-- what one item keeps
pub record KeepsWorld (c : Constants) (w v : World) : Type 0 where
  pub world : IsWorld c v
  pub turns : (base : World) → HaveTurns base w → HaveTurns base v

keeps_same : (c : Constants) (w : World) → IsWorld c w → KeepsWorld c w w
keeps_same c w h = record { world = h; turns = λ base t. t }

keeps_both : (c : Constants) (w v u : World) → KeepsWorld c w v → (IsWorld c v → KeepsWorld c v u) → KeepsWorld c w u
keeps_both c w v u f g = let k : KeepsWorld c v u = g f.world in record { world = k.world; turns = λ base t. k.turns base (f.turns base t) }

turns_of : (first : ℕ) (names : List (List ℕ)) (edits : List Edit) (n : ℕ) (b d : WorldActor) → Lasts names edits n b d → HasTurns first b → HasTurns first d
turns_of first names edits n b d l h = omega (arith, l.turns, h)

-- another actor in the place of one
pub change_keeps : (c : Constants) (w : World) (a : ActorId) (f : WorldActor → WorldActor) → IsWorld c w → ((b : WorldActor) → slice_get w.actors a.0 ≡ Some b → IsWorldActor c.names w.edits (length w.actors) b → Lasts c.names w.edits (length w.actors) b (f b)) → KeepsWorld c w (change f a w)
change_keeps c w a f h k =
    let count : length (change_at f a.0 w.actors) ≡ length w.actors = length-change f a.0 w.actors in
    record {
      world = record {
        constants = h.constants;
        lawful = h.lawful;
        suited = h.suited;
        sound = h.sound;
        actors = subst (λ (n : ℕ). All (IsWorldActor c.names w.edits n) (change_at f a.0 w.actors)) (sym count) (All-change (IsWorldActor c.names w.edits (length w.actors)) f a.0 w.actors (λ b at p. (k b at p).being) h.actors);
        clients = h.clients;
      };
      turns = λ base t. record {
        long = omega (arith, t.long, count);
        each = λ j d e.
            let back = get-change-back f a.0 w.actors j d e in
            elim back.2 [
              | inl same ↦ subst (HasTurns (first_turn (slice_get base.actors j))) (sym same) (t.each j back.0 back.1)
              | inr s ↦ let at : slice_get w.actors a.0 ≡ Some back.0 = subst (λ (n : ℕ). slice_get w.actors n ≡ Some back.0) s.0 back.1 in
                  let l = k back.0 at (at_all (IsWorldActor c.names w.edits (length w.actors)) w.actors a.0 back.0 h.actors at) in
                  subst (HasTurns (first_turn (slice_get base.actors j))) (sym s.1) (turns_of (first_turn (slice_get base.actors j)) c.names w.edits (length w.actors) back.0 (f back.0) l (t.each j back.0 back.1))
            ];
        starts = λ j d e.
            let back = get-change-back f a.0 w.actors j d e in
            let old : StartsLast (slice_get base.actors j) back.0 = t.starts j back.0 back.1 in
            elim back.2 [
              | inl same ↦ subst (StartsLast (slice_get base.actors j)) (sym same) old
              | inr s ↦ let at : slice_get w.actors a.0 ≡ Some back.0 = subst (λ (n : ℕ). slice_get w.actors n ≡ Some back.0) s.0 back.1 in
                  let l = k back.0 at (at_all (IsWorldActor c.names w.edits (length w.actors)) w.actors a.0 back.0 h.actors at) in
                  subst (StartsLast (slice_get base.actors j)) (sym s.1) (l.starts (slice_get base.actors j) old)
            ];
      };
    }

edited_keeps : (c : Constants) (w v : World) (e : Edit) → IsWorld c w → IsSoundEdit e → after_edit c w e ≡ Some v → KeepsWorld c w v
edited_keeps c w v e h s f =
    let t = let_through _ _ v f in
    let b = and_parts _ _ t.0 in
    let r : first_of (edit_rules w.edits e) ≡ None = none_from _ b.0 in
    subst (KeepsWorld c w) t.1 (record {
      world = record {
        constants = h.constants;
        lawful = lawful_with w.edits e h.lawful r;
        suited = all_suit_with c.names w.edits e h.lawful r h.suited b.1;
        sound = sound_push w.edits e h.sound s;
        actors = all_map (IsWorldActor c.names w.edits (length w.actors)) (IsWorldActor c.names (w.edits ++ e ∷ []) (length w.actors)) w.actors (λ x g. being_after c.names w.edits (length w.actors) e x (lawful_with w.edits e h.lawful r) h.suited g) h.actors;
        clients = h.clients;
      };
      turns = λ base t. record { long = t.long; each = t.each; starts = t.starts };
    })

-- ---- a new actor

at_most : (m n : ℕ) → nat_le m n ≡ true → m ≤ n
at_most m n e = grind (arith, nat_tests)

first_beyond : (xs : List WorldActor) (j : ℕ) → length xs ≤ j → first_turn (slice_get xs j) ≡ 1
first_beyond xs j h = ap first_turn (slice_get_past xs j h)

new_turns : (c : Constants) (class : ClassId) (base w : World) → HaveTurns base w → HaveTurns base (with_new c class w)
new_turns c class base w t =
    let x : WorldActor = new_world_actor w.edits class c.capacity in
    record {
      long = omega (arith, t.long, length-append w.actors (x ∷ []));
      each = λ j d e. elim (get-push-back w.actors x j d e) [
        | inl there ↦ t.each j d there
        | inr s ↦ subst (HasTurns (first_turn (slice_get base.actors j))) (sym s.1) (subst (λ (n : ℕ). HasTurns n x) (sym (first_beyond base.actors j (omega (arith, t.long, s.0)))) refl)
      ];
      starts = λ j d e. elim (get-push-back w.actors x j d e) [
        | inl there ↦ t.starts j d there
        | inr s ↦ subst (StartsLast (slice_get base.actors j)) (sym s.1) (starts_new (slice_get base.actors j) x (slice_get_past base.actors j (omega (arith, t.long, s.0))) refl refl)
      ];
    }

new_keeps : (c : Constants) (class : ClassId) (w : World) → IsWorld c w → has_instances w.edits class ≡ true → KeepsWorld c w (with_new c class w)
new_keeps c class w h inst =
    let x : WorldActor = new_world_actor w.edits class c.capacity in
    let one : length (w.actors ++ x ∷ []) ≡ length w.actors + 1 = length-append w.actors (x ∷ []) in
    let count : length w.actors ≤ length (w.actors ++ x ∷ []) = omega arith in
    let fresh : IsWorldActor c.names w.edits (length (w.actors ++ x ∷ [])) x = record {
      fits = fresh_fits (given c.names (length (w.actors ++ x ∷ []))) w.edits class inst;
      itself = refl;
      plain = tt;
      some_capacity = h.constants.some_capacity;
      few_messages = h.constants.few_messages;
      within = omega arith;
      begins = nothing_begun x refl;
      mail = All-nil _;
      told = All-nil _;
    } in
    record {
      world = record {
        constants = h.constants;
        lawful = h.lawful;
        suited = h.suited;
        sound = h.sound;
        actors = All-push (IsWorldActor c.names w.edits (length (w.actors ++ x ∷ []))) w.actors x (all_map (IsWorldActor c.names w.edits (length w.actors)) (IsWorldActor c.names w.edits (length (w.actors ++ x ∷ []))) w.actors (λ b g. being_more c.names w.edits (length w.actors) (length (w.actors ++ x ∷ [])) b h.lawful h.suited count g) h.actors) fresh;
        clients = h.clients;
      };
      turns = λ base t. new_turns c class base w t;
    }

created_keeps : (c : Constants) (w v : World) (class : ClassId) → IsWorld c w → after_create c w class ≡ Some v → KeepsWorld c w v
created_keeps c w v class h f = let t = let_through _ _ v f in subst (KeepsWorld c w) t.1 (new_keeps c class w h t.0)

-- ---- a message

accepting_lasts : (c : Constants) (w : World) (m : Message) (b : WorldActor) → MayPost c w m b → IsWorldActor c.names w.edits (length w.actors) b → Lasts c.names w.edits (length w.actors) b (with_accepted m b)
accepting_lasts c w m b may here = record {
  being = record {
    fits = here.fits;
    itself = here.itself;
    plain = here.plain;
    some_capacity = here.some_capacity;
    few_messages = here.few_messages;
    within = omega (arith, ap (λ (xs : List Message). length xs) (pending_accepting m b here.begins), length-append (pending b) (m ∷ []), may.room);
    begins = accepting_begins m b here.begins;
    mail = All-push (λ (x : Message). message_fits c.names (class_count w.edits) (length w.actors) x ≡ true) b.accepted m here.mail may.suits;
    told = here.told;
  };
  turns = refl;
  starts = λ base k. starts_same base b _ refl refl k;
}

last_keeps : (c : Constants) (s : Sender) (n : ℕ) (w : World) → 1 ≤ n → IsWorld c w → KeepsWorld c w (with_last s n w)
last_keeps c (Client s) n w some h = record {
  world = record {
    constants = h.constants;
    lawful = h.lawful;
    suited = h.suited;
    sound = h.sound;
    actors = h.actors;
    clients = put_rises 0 s n w.clients (omega arith) some h.clients;
  };
  turns = λ base t. record { long = t.long; each = t.each; starts = t.starts };
}
last_keeps c (Acting a) n w some h = change_keeps c w a (λ b. record b { last = n }) h (λ b at here. record {
  being = record {
    fits = here.fits;
    itself = here.itself;
    plain = here.plain;
    some_capacity = here.some_capacity;
    few_messages = here.few_messages;
    within = here.within;
    begins = here.begins;
    mail = here.mail;
    told = here.told;
  };
  turns = refl;
  starts = λ base k. starts_same base b _ refl refl k;
})

pub posted_keeps : (c : Constants) (w v : World) (a : ActorId) (m : Message) → IsWorld c w → after_post c w a m ≡ Some v → KeepsWorld c w v
posted_keeps c w v a m h f =
    let t = let_through _ _ v f in
    let may = (post_there c w a m t.0).2 in
    let one : World = change (with_accepted m) a w in
    subst (KeepsWorld c w) t.1 (keeps_both c w one (with_last m.sender m.seq one)
    (change_keeps c w a (with_accepted m) h (λ b at here. accepting_lasts c w m b (may_post c w m b (rules_of c w m (slice_get w.actors a.0) b at t.0)) here))
    (λ g. last_keeps c m.sender m.seq one (omega (arith, number_above w m.sender m.seq may.number)) g))

pub closed_keeps : (c : Constants) (w v : World) (a : ActorId) → IsWorld c w → after_close w a ≡ Some v → KeepsWorld c w v
closed_keeps c w v a h f =
    let t = let_through _ _ v f in
    subst (KeepsWorld c w) t.1 (change_keeps c w a (λ b. record b { is_open = false }) h (λ b at here. record {
      being = record {
        fits = here.fits;
        itself = here.itself;
        plain = here.plain;
        some_capacity = here.some_capacity;
        few_messages = here.few_messages;
        within = here.within;
        begins = here.begins;
        mail = here.mail;
        told = here.told;
      };
      turns = refl;
      starts = λ base k. starts_same base b _ refl refl k;
    }))

-- ---- a message that begins

argument_there : (names : List (List ℕ)) (edits : List Edit) (actors objects : ℕ) (v : Value) → argument_fits names (class_count edits) actors v ≡ true → IsThere (given names actors) edits objects v
argument_there names edits actors objects v e = there_grows names names (class_count edits) (class_count edits) actors actors 0 objects (le_refl (length names)) (le_refl (class_count edits)) (le_refl actors) (omega arith) v e

all_from_tests : {X : Type 0} (p : X → Bool) (P : X → Type 0) (xs : List X) → ((x : X) → p x ≡ true → P x) → list_all p xs ≡ true → All P xs
all_from_tests p P [] f e = All-nil P
all_from_tests p P (x ∷ xs) f e = let t = and_parts (p x) (list_all p xs) e in All-cons P x xs (f x t.0) (all_from_tests p P xs f t.1)

first_of_drop : {X : Type 0} (xs : List X) (n : ℕ) (x : X) (rest : List X) → drop n xs ≡ x ∷ rest → slice_get xs n ≡ Some x
first_of_drop [] zero x rest e = cc
first_of_drop [] (suc n) x rest e = cc
first_of_drop (y ∷ xs) zero x rest e = cc
first_of_drop (y ∷ xs) (suc n) x rest e = first_of_drop xs n x rest e

-- the first pending message was accepted
first_pending : (b : WorldActor) (m : Message) (ms : List Message) → pending b ≡ m ∷ ms → slice_get b.accepted (length b.begun) ≡ Some m
first_pending b m ms e = first_of_drop b.accepted (length b.begun) m ms e

one_turn_more : (b : WorldActor) (m : Message) (idle : Bool) → idle ≡ true → length b.results + 1 + length b.begun ≡ length b.results + cond idle 0 1 + length (b.begun ++ m ∷ [])
one_turn_more b m true e = omega (arith, length-append b.begun (m ∷ []))
one_turn_more b m false e = cc

beginning_lasts : (c : Constants) (w : World) (m : Message) (ms : List Message) (b : WorldActor) → is_idle b.body.phase ≡ true → pending b ≡ m ∷ ms → IsWorldActor c.names w.edits (length w.actors) b → Lasts c.names w.edits (length w.actors) b (with_begun m b)
beginning_lasts c w m ms b idle e here =
    let suits : message_fits c.names (class_count w.edits) (length w.actors) m ≡ true = at_all (λ (x : Message). message_fits c.names (class_count w.edits) (length w.actors) x ≡ true) b.accepted (length b.begun) m here.mail (first_pending b m ms e) in
    let both = and_parts _ _ suits in
    record {
      being = record {
        fits = begin_fits (given c.names (length w.actors)) w.edits b.body m.selector m.args here.fits (number_is _ _ both.0) (all_from_tests (argument_fits c.names (class_count w.edits) (length w.actors)) (IsThere (given c.names (length w.actors)) w.edits (length b.body.objects)) m.args (argument_there c.names w.edits (length w.actors) (length b.body.objects)) both.1);
        itself = here.itself;
        plain = fitting_is_plain c.names (class_count w.edits) (length w.actors) m.args both.1;
        some_capacity = here.some_capacity;
        few_messages = here.few_messages;
        within = omega (arith, here.within, ap (λ (xs : List Message). length xs) e, ap (λ (xs : List Message). length xs) (pending_beginning m b ms e));
        begins = beginning_begins m b ms e here.begins;
        mail = here.mail;
        told = here.told;
      };
      turns = one_turn_more b m (is_idle b.body.phase) idle;
      starts = λ base k. starts_begun base b m k;
    }

same_being : (b d : WorldActor) → Some b ≡ Some d → b ≡ d
same_being b d e = cc

pub begun_keeps : (c : Constants) (w v : World) (a : ActorId) → IsWorld c w → after_begin w a ≡ Some v → KeepsWorld c w v
begun_keeps c w v a h f =
    let p = mapped (λ m. change (with_begun m) a w) (next_message (slice_get w.actors a.0)) v f in
    let n : IsNextMessage (slice_get w.actors a.0) p.0 = next_is (slice_get w.actors a.0) p.0 p.1 in
    subst (KeepsWorld c w) p.2 (change_keeps c w a (with_begun p.0) h (λ b at here.
    let same : n.being ≡ b = same_being n.being b (sym n.there ∙ at) in
    beginning_lasts c w p.0 n.rest b (subst (λ (x : WorldActor). is_idle x.body.phase ≡ true) same n.idle) (subst (λ (x : WorldActor). pending x ≡ p.0 ∷ n.rest) same n.first) here))

-- ---- steps

-- the selector for what is not understood takes one argument
pub kernel_known : (names : List (List ℕ)) → BeginsWithKernel names → arity_at names does_not_understand ≡ Some 1
kernel_known names h = subst (λ (ns : List (List ℕ)). arity_at ns does_not_understand ≡ Some 1) (sym h.1) (kernel_names_know h.0)

-- a turn that was going on has ended with a result, or goes on
turns_after : (idle : Bool) (phase : Phase) (results : List Outcome) (after_begin : ℕ) → idle ≡ false → IsDispatched phase → length (with_result phase results) + cond (is_idle phase) 0 1 + after_begin ≡ length results + cond idle 0 1 + after_begin
turns_after true phase results after_begin f h = cc
turns_after false Fresh results after_begin f h = absurd h
turns_after false (Start s args) results after_begin f h = absurd h
turns_after false (Frames fs) results after_begin f h = refl
turns_after false (Done outcome) results after_begin f h = omega (arith, length-append results (outcome ∷ []))

told_results : (g : Referents) (edits : List Edit) (old new : List Object) (phase : Phase) (results : List Outcome) → length old ≤ length new → FitsPhase g edits new phase → All (λ (o : Outcome). FitsPhase g edits old (Done o)) results → All (λ (o : Outcome). FitsPhase g edits new (Done o)) (with_result phase results)
told_results g edits old new Fresh results l h all = all_map _ _ results (told_later g edits old new l) all
told_results g edits old new (Start s args) results l h all = all_map _ _ results (told_later g edits old new l) all
told_results g edits old new (Frames fs) results l h all = all_map _ _ results (told_later g edits old new l) all
told_results g edits old new (Done outcome) results l h all = All-push (λ (o : Outcome). FitsPhase g edits new (Done o)) results outcome (all_map _ _ results (told_later g edits old new l) all) h

-- an actor with the body that a step led to
body_lasts : (c : Constants) (w : World) (body : Body) (b : WorldActor) → is_idle b.body.phase ≡ false → Led b.body.objects body → Fits (given c.names (length w.actors)) w.edits body → IsWorldActor c.names w.edits (length w.actors) b → Lasts c.names w.edits (length w.actors) b (with_body body b)
body_lasts c w body b busy led fits here = record {
  being = record {
    fits = fits;
    itself = led.keeps.itself ∙ here.itself;
    plain = dispatched_is_plain body.phase led.dispatched;
    some_capacity = here.some_capacity;
    few_messages = here.few_messages;
    within = here.within;
    begins = here.begins;
    mail = here.mail;
    told = told_results (given c.names (length w.actors)) w.edits b.body.objects body.objects body.phase b.results led.keeps.objects fits.phase here.told;
  };
  turns = turns_after (is_idle b.body.phase) body.phase b.results (length b.begun) busy led.dispatched;
  starts = λ base k. starts_dispatched base b body led.dispatched k;
}

pub next_busy : (edits : List Edit) (a : ActorId) (objects : List Object) (phase : Phase) (c : Body) → step_in edits a objects phase ≡ leads c → is_idle phase ≡ false
next_busy edits a objects Fresh c e = cc
next_busy edits a objects (Start s args) c e = refl
next_busy edits a objects (Frames fs) c e = refl
next_busy edits a objects (Done outcome) c e = cc

pub outer_busy : (edits : List Edit) (a : ActorId) (objects : List Object) (phase : Phase) (act : Act) → step_in edits a objects phase ≡ outer act → is_idle phase ≡ false
outer_busy edits a objects Fresh act e = cc
outer_busy edits a objects (Start s args) act e = refl
outer_busy edits a objects (Frames fs) act e = refl
outer_busy edits a objects (Done outcome) act e = cc

pub fits_step : (c : Constants) (w : World) (a : ActorId) (b : WorldActor) → IsWorld c w → slice_get w.actors a.0 ≡ Some b → FitsStep (given c.names (length w.actors)) w.edits b.body (step w.edits a b.body)
fits_step c w a b h at = step_fits (given c.names (length w.actors)) w.edits a b.body h.lawful h.suited h.sound (kernel_known c.names h.constants.kernel) (slice_get_within w.actors a.0 b at) (at_all (IsWorldActor c.names w.edits (length w.actors)) w.actors a.0 b h.actors at).fits

being_of : (c : Constants) (w : World) (a : ActorId) (b : WorldActor) → IsWorld c w → slice_get w.actors a.0 ≡ Some b → IsWorldActor c.names w.edits (length w.actors) b
being_of c w a b h at = at_all (IsWorldActor c.names w.edits (length w.actors)) w.actors a.0 b h.actors at

own_keeps : (c : Constants) (w : World) (a : ActorId) (b : WorldActor) (body : Body) → IsWorld c w → slice_get w.actors a.0 ≡ Some b → step w.edits a b.body ≡ leads body → KeepsWorld c w (change (with_body body) a w)
own_keeps c w a b body h at e = change_keeps c w a (with_body body) h (λ d there here.
    let same : b ≡ d = same_being b d (sym at ∙ there) in
    let fits : Fits (given c.names (length w.actors)) w.edits body = subst (FitsStep (given c.names (length w.actors)) w.edits b.body) e (fits_step c w a b h at) in
    let led : Led b.body.objects body = subst (LeadsTo b.body.objects b.body.phase) e (step_leads w.edits a b.body (being_of c w a b h at).fits.some) in
    subst (λ (x : WorldActor). Lasts c.names w.edits (length w.actors) x (with_body body x)) same (body_lasts c w body b (next_busy w.edits a b.body.objects b.body.phase body e) led fits (being_of c w a b h at)))

-- ---- acts

-- what an act keeps: the edits, and the body of each actor
pub record KeepsBodies (w v : World) : Type 0 where
  pub edits : v.edits ≡ w.edits
  pub bodies : (j : ℕ) (b : WorldActor) → slice_get w.actors j ≡ Some b → (d : WorldActor) × (slice_get v.actors j ≡ Some d) × (d.body ≡ b.body)

bodies_same : (w : World) → KeepsBodies w w
bodies_same w = record { edits = refl; bodies = λ j b e. (b, e, refl) }

bodies_both : (w v u : World) → KeepsBodies w v → KeepsBodies v u → KeepsBodies w u
bodies_both w v u f g = record {
  edits = g.edits ∙ f.edits;
  bodies = λ j b e. let p = f.bodies j b e in let q = g.bodies j p.0 p.1 in (q.0, q.1, q.2 ∙ p.2);
}

bodies_change : (w : World) (a : ActorId) (f : WorldActor → WorldActor) → ((b : WorldActor) → (f b).body ≡ b.body) → KeepsBodies w (change f a w)
bodies_change w a f h = record {
  edits = refl;
  bodies = λ j b e. elim (get-change-any f a.0 w.actors j b e) [ inl there ↦ (b, there, refl) | inr s ↦ (f b, s.1, h b) ];
}

bodies_last : (s : Sender) (n : ℕ) (w : World) → KeepsBodies w (with_last s n w)
bodies_last (Client s) n w = record { edits = refl; bodies = λ j b e. (b, e, refl) }
bodies_last (Acting a) n w = bodies_change w a (λ b. record b { last = n }) (λ b. refl)

bodies_posted : (c : Constants) (w v : World) (a : ActorId) (m : Message) → after_post c w a m ≡ Some v → KeepsBodies w v
bodies_posted c w v a m h =
    let t = let_through _ _ v h in
    subst (KeepsBodies w) t.1 (bodies_both w (change (with_accepted m) a w) (with_last m.sender m.seq (change (with_accepted m) a w)) (bodies_change w a (with_accepted m) (λ b. refl)) (bodies_last m.sender m.seq (change (with_accepted m) a w)))

bodies_closed : (w v : World) (a : ActorId) → after_close w a ≡ Some v → KeepsBodies w v
bodies_closed w v a h = let t = let_through _ _ v h in subst (KeepsBodies w) t.1 (bodies_change w a (λ b. record b { is_open = false }) (λ b. refl))

bodies_new : (c : Constants) (class : ClassId) (w : World) → KeepsBodies w (with_new c class w)
bodies_new c class w = record { edits = refl; bodies = λ j b e. (b, slice_get_kept w.actors (new_world_actor w.edits class c.capacity ∷ []) j b e, refl) }

-- an act leaves a world, its actors' bodies, and an answer that is there
pub record KeepsAct (c : Constants) (w : World) (d : Acted) : Type 0 where
  pub keeps : KeepsWorld c w d.world
  pub bodies : KeepsBodies w d.world
  pub gives : (n : ℕ) → Gives (given c.names (length d.world.actors)) d.world.edits n d.answer

act_failed : (c : Constants) (w : World) (e : Fault) → IsWorld c w → KeepsAct c w (failed_act w e)
act_failed c w e h = record { keeps = keeps_same c w h; bodies = bodies_same w; gives = λ n. tt }

act_tried : (c : Constants) (w : World) (o : Option World) → IsWorld c w → ((v : World) → o ≡ Some v → KeepsWorld c w v) → ((v : World) → o ≡ Some v → KeepsBodies w v) → KeepsAct c w (attempted_act w o)
act_tried c w None h f g = record { keeps = keeps_same c w h; bodies = bodies_same w; gives = λ n. refl }
act_tried c w (Some v) h f g = record { keeps = f v refl; bodies = g v refl; gives = λ n. refl }

act_either : (c : Constants) (w : World) (b : Bool) (p q : Acted) → (b ≡ true → KeepsAct c w p) → (b ≡ false → KeepsAct c w q) → KeepsAct c w (cond b p q)
act_either c w true p q h k = h refl
act_either c w false p q h k = k refl

by_posted : (c : Constants) (to : ActorId) (s : Selector) (args : List Value) (a : ActorId) (w v : World) (o : Option WorldActor) → after_post_by c to s args a w o ≡ Some v → (m : Message) × (after_post c w to m ≡ Some v)
by_posted c to s args a w v None e = cc
by_posted c to s args a w v (Some b) e = (_, (cond_some _ _ v e).1)

act_post : (c : Constants) (to : ActorId) (s : Selector) (args : List Value) (a : ActorId) (w : World) → IsWorld c w → KeepsAct c w (post_result c to s args a w)
act_post c to s args a w h =
    let o : Option World = after_post_by c to s args a w (slice_get w.actors a.0) in
    act_either c w (not (is_number (arity_at c.names s) (length args))) (failed_act w BadArgument) (cond (list_any is_local args) (failed_act w LocalArgument) (attempted_act w o)) (λ x. act_failed c w BadArgument h)
    (λ x. act_either c w (list_any is_local args) (failed_act w LocalArgument) (attempted_act w o) (λ y. act_failed c w LocalArgument h)
    (λ y. act_tried c w o h
    (λ v e. let p = by_posted c to s args a w v (slice_get w.actors a.0) e in posted_keeps c w v to p.0 h p.1)
    (λ v e. let p = by_posted c to s args a w v (slice_get w.actors a.0) e in bodies_posted c w v to p.0 p.1)))

act_create : (c : Constants) (class : ClassId) (w : World) → IsWorld c w → class.0 < class_count w.edits → KeepsAct c w (create_result c class w)
act_create c class w h there =
    let made : Acted = record { world = with_new c class w; answer = Ok (Actor (record { 0 = length w.actors })) } in
    act_either c w (is_value_class class) (failed_act w BadArgument) (cond (nat_le 65536 (length w.actors)) (failed_act w TooManyActors) made) (λ x. act_failed c w BadArgument h)
    (λ x. act_either c w (nat_le 65536 (length w.actors)) (failed_act w TooManyActors) made (λ y. act_failed c w TooManyActors h)
    (λ y. let class_there : is_class w.edits class ≡ true = grind (arith, nat_tests) in
    record {
      keeps = new_keeps c class w h (and_from (is_class w.edits class) (not (is_value_class class)) class_there (ap not x));
      bodies = bodies_new c class w;
      gives = λ n. lt-ltb (length w.actors) (length (with_new c class w).actors) (omega (arith, length-append w.actors (new_world_actor w.edits class c.capacity ∷ [])));
    }))

pub act_keeps : (c : Constants) (a : ActorId) (w : World) (n : ℕ) (act : Act) → IsWorld c w → FitsAct (given c.names (length w.actors)) w.edits n act → KeepsAct c w (act_result c a w act)
act_keeps c a w n (Post to (Sym s ∷ args)) h fits = act_post c to s args a w h
act_keeps c a w n (Post to []) h fits = act_failed c w BadArgument h
act_keeps c a w n (Post to (Int z ∷ args)) h fits = act_failed c w BadArgument h
act_keeps c a w n (Post to (Boolean b ∷ args)) h fits = act_failed c w BadArgument h
act_keeps c a w n (Post to (Nil ∷ args)) h fits = act_failed c w BadArgument h
act_keeps c a w n (Post to (Class d ∷ args)) h fits = act_failed c w BadArgument h
act_keeps c a w n (Post to (Actor d ∷ args)) h fits = act_failed c w BadArgument h
act_keeps c a w n (Post to (Local k ∷ args)) h fits = act_failed c w BadArgument h
act_keeps c a w n (Close to) h fits = act_tried c w (after_close w to) h (λ v e. closed_keeps c w v to h e) (λ v e. bodies_closed w v to e)
act_keeps c a w n (Create class) h fits = act_create c class w h fits

acted_keeps : (c : Constants) (w : World) (a : ActorId) (b : WorldActor) (act : Act) → IsWorld c w → slice_get w.actors a.0 ≡ Some b → step w.edits a b.body ≡ outer act → KeepsWorld c w (after_act a act (act_result c a w act))
acted_keeps c w a b act h at e =
    let d : Acted = act_result c a w act in
    let fits = subst (FitsStep (given c.names (length w.actors)) w.edits b.body) e (fits_step c w a b h at) in
    let k : KeepsAct c w d = act_keeps c a w (length b.body.objects) act h fits.0 in
    keeps_both c w d.world (after_act a act d) k.keeps (λ g. change_keeps c d.world a (λ x. with_body (reply_body act d.answer x.body) x) g (λ x there here.
    let old = k.bodies.bodies a.0 b at in
    let same : old.0 ≡ x = same_being old.0 x (sym old.1 ∙ there) in
    let body : x.body ≡ b.body = ap (λ (y : WorldActor). y.body) (sym same) ∙ old.2 in
    let e' : step d.world.edits a x.body ≡ outer act = ap (λ (es : List Edit). step es a x.body) k.bodies.edits ∙ ap (step w.edits a) body ∙ e in
    let f = subst (FitsStep (given c.names (length d.world.actors)) d.world.edits x.body) e' (fits_step c d.world a x g there) in
    let led : (answer : Result Value Fault) → Led x.body.objects (reply_body act answer x.body) = subst (LeadsTo x.body.objects x.body.phase) e' (step_leads d.world.edits a x.body here.fits.some) in
    body_lasts c d.world (reply_body act d.answer x.body) x (outer_busy d.world.edits a x.body.objects x.body.phase act e') (led d.answer) (f.1 d.answer (k.gives (length x.body.objects))) here))

some_world : (w v : World) → Some w ≡ Some v → w ≡ v
some_world w v e = cc

taken_keeps : (c : Constants) (a : ActorId) (w v : World) (b : WorldActor) (s : Step) → IsWorld c w → slice_get w.actors a.0 ≡ Some b → step w.edits a b.body ≡ s → after_step_of c a w s ≡ Some v → KeepsWorld c w v
taken_keeps c a w v b (leads body) h at e f = subst (KeepsWorld c w) (some_world _ v f) (own_keeps c w a b body h at e)
taken_keeps c a w v b ended h at e f = cc
taken_keeps c a w v b (outer act) h at e f = subst (KeepsWorld c w) (some_world _ v f) (acted_keeps c w a b act h at e)

pub stepped_keeps : (c : Constants) (a : ActorId) (w v : World) → IsWorld c w → after_step c a w ≡ Some v → KeepsWorld c w v
stepped_keeps c a w v h e = let p = bound (λ b. after_step_of c a w (step w.edits a b.body)) (slice_get w.actors a.0) v e in taken_keeps c a w v p.0 (step w.edits a p.0.body) h p.1 refl p.2

pub after_keeps : (c : Constants) (a : ActorId) (n : ℕ) (w v : World) → IsWorld c w → world_after c a n w ≡ Some v → KeepsWorld c w v
after_keeps c a zero w v h e = subst (KeepsWorld c w) (some_world w v e) (keeps_same c w h)
after_keeps c a (suc n) w v h e = let p = bound (world_after c a n) (after_step c a w) v e in keeps_both c w p.0 v (stepped_keeps c a w p.0 h p.1) (λ g. after_keeps c a n p.0 v g p.2)

-- ---- any item

pub next_keeps : (c : Constants) (w v : World) (i : Item) → IsWorld c w → IsSoundItem i → next c w i ≡ Some v → KeepsWorld c w v
next_keeps c w v (Edited e) h s f = edited_keeps c w v e h s f
next_keeps c w v (Created class) h s f = created_keeps c w v class h f
next_keeps c w v (Posted a m) h s f = posted_keeps c w v a m h f
next_keeps c w v (Closed a) h s f = closed_keeps c w v a h f
next_keeps c w v (Begun a) h s f = begun_keeps c w v a h f
next_keeps c w v (Ran a n) h s f = after_keeps c a n w v h (cond_some (nat_lt 0 n) (world_after c a n w) v (sym (ran_after c w a n) ∙ f)).1

pub start_is_world : (c : Constants) → AreConstants c → IsWorld c start
start_is_world c k = record {
  constants = k;
  lawful = λ place e at. cc;
  suited = λ place d m at. cc;
  sound = λ place d m at. cc;
  actors = All-nil _;
  clients = tt;
}

pub start_has_turns : HaveTurns start start
start_has_turns = record { long = omega arith; each = λ a b e. cc; starts = λ a b e. cc }

kernel_more : (names more : List (List ℕ)) → BeginsWithKernel names → BeginsWithKernel (names ++ more)
kernel_more names more h = (h.0 ++ more, ap (λ (ns : List (List ℕ)). ns ++ more) h.1 ∙ append_assoc kernel_selectors h.0 more)

-- the constants with more names
abbrev pub named_more : Constants → List (List ℕ) → Constants
named_more c more = record { names = c.names ++ more; capacity = c.capacity }

-- more names leave a world a world
pub names_keep : (c : Constants) (more : List (List ℕ)) (w : World) → IsWorld c w → IsWorld (named_more c more) w
names_keep c more w h = record {
  constants = record { kernel = kernel_more c.names more h.constants.kernel; some_capacity = h.constants.some_capacity; few_messages = h.constants.few_messages };
  lawful = h.lawful;
  suited = all_suit_more_names c.names more w.edits h.suited;
  sound = h.sound;
  actors = all_map (IsWorldActor c.names w.edits (length w.actors)) (IsWorldActor (c.names ++ more) w.edits (length w.actors)) w.actors (λ b g. being_given c.names more w.edits (length w.actors) (length w.actors) b h.lawful h.suited (omega arith) g) h.actors;
  clients = h.clients;
}
