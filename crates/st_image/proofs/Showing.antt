-- What is kept of a world, after a change of one actor or with one more.
use Rattle.std.proofs.Common.{arith, ◌≡◌, ℕ, ◌+◌, ◌≤◌, ◌++◌, [], ◌∷◌, List, length, drop, map, Option, Some, None, refl, ap, sym, ◌∙◌, slice_get, length-append}
use Rattle.std.specs.Option.{option_map}
use Rattle.std.proofs.lemmas.List.{drop-append-le, map-append, length-map}
use Rattle.std.proofs.lemmas.Option.{slice_get-map}
use Rattle.st_classes.specs.declared.values.ActorId.{ActorId}
use Rattle.st_classes.specs.declared.edits.Edit.{Edit}
use Rattle.st_mailbox.specs.declared.messages.Message.{Message}
use Rattle.st_image.specs.Worlds.{World, WorldActor, change, change_at, pending}
use Rattle.st_image.specs.Replay.{with_accepted, with_begun}
use Rattle.st_image.specs.Delivery.{BeginsInOrder}
use Rattle.st_image.specs.Scheduling.{is_ready_at}
use Rattle.st_image.specs.ActorViews.{ActorView, Shows, view_after_begin, is_ready_in, actor_view, view_with_message}
use Rattle.st_image.proofs.Lists.{drop_first}
use Rattle.st_image.proofs.Changing.{map-change}

-- ---- what is shown

-- what is kept of an actor that is there
pub kept_at : (edits : List Edit) (actors : List ActorView) (w : World) (a : ℕ) (b : WorldActor) → Shows edits actors w → slice_get w.actors a ≡ Some b → slice_get actors a ≡ Some (actor_view b)
kept_at edits actors w a b s e = ap (λ (xs : List ActorView). slice_get xs a) s.actors_are ∙ slice_get-map actor_view w.actors a ∙ ap (option_map actor_view) e

-- what is there of an actor that is kept
pub being_of : (edits : List Edit) (actors : List ActorView) (w : World) (a : ℕ) (o : Option ActorView) → Shows edits actors w → slice_get actors a ≡ o → option_map actor_view (slice_get w.actors a) ≡ o
being_of edits actors w a o s e = sym (slice_get-map actor_view w.actors a) ∙ ap (λ (xs : List ActorView). slice_get xs a) (sym s.actors_are) ∙ e

some_being : (o : Option WorldActor) (k : ActorView) → option_map actor_view o ≡ Some k → (b : WorldActor) × (o ≡ Some b) × (actor_view b ≡ k)
some_being None k e = cc
some_being (Some b) k e = (b, refl, cc)

pub being_at_kept : (edits : List Edit) (actors : List ActorView) (w : World) (a : ℕ) (k : ActorView) → Shows edits actors w → slice_get actors a ≡ Some k → (b : WorldActor) × (slice_get w.actors a ≡ Some b) × (actor_view b ≡ k)
being_at_kept edits actors w a k s e = some_being (slice_get w.actors a) k (being_of edits actors w a (Some k) s e)

pub count_is : (edits : List Edit) (actors : List ActorView) (w : World) → Shows edits actors w → length actors ≡ length w.actors
count_is edits actors w s = ap (λ (xs : List ActorView). length xs) s.actors_are ∙ length-map w.actors actor_view

pub shows_change : (edits : List Edit) (actors after : List ActorView) (w : World) (a : ActorId) (f : WorldActor → WorldActor) (g : ActorView → ActorView) → Shows edits actors w → ((b : WorldActor) → slice_get w.actors a.0 ≡ Some b → actor_view (f b) ≡ g (actor_view b)) → after ≡ change_at g a.0 actors → Shows edits after (change f a w)
shows_change edits actors after w a f g s same e = record {
  edits_are = s.edits_are;
  actors_are = e ∙ ap (change_at g a.0) s.actors_are ∙ sym (map-change actor_view f g a.0 w.actors same);
}

pub shows_push : (edits : List Edit) (actors after : List ActorView) (w v : World) (c : WorldActor) → Shows edits actors w → v.edits ≡ w.edits → v.actors ≡ w.actors ++ c ∷ [] → after ≡ actors ++ actor_view c ∷ [] → Shows edits after v
shows_push edits actors after w v c s e f g = record {
  edits_are = s.edits_are ∙ sym e;
  actors_are = g ∙ ap (λ (xs : List ActorView). xs ++ actor_view c ∷ []) s.actors_are ∙ sym (map-append actor_view w.actors (c ∷ [])) ∙ ap (map actor_view) (sym f);
}

ready_by : (w : World) (o : Option WorldActor) (p : Option ActorView) (a : ℕ) → slice_get w.actors a ≡ o → is_ready_in (map actor_view w.actors) a ≡ is_ready_at w a
ready_by w None p a e = rw (slice_get-map actor_view w.actors a, e) refl
ready_by w (Some b) p a e = rw (slice_get-map actor_view w.actors a, e) refl

-- the ready ones are the world's
pub ready_is : (edits : List Edit) (actors : List ActorView) (w : World) (a : ℕ) → Shows edits actors w → is_ready_in actors a ≡ is_ready_at w a
ready_is edits actors w a s = ap (λ (xs : List ActorView). is_ready_in xs a) s.actors_are ∙ ready_by w (slice_get w.actors a) None a refl

-- ---- one actor

pub begun_length : (b : WorldActor) → BeginsInOrder b → length b.begun ≤ length b.accepted
begun_length b h = rw h.1 (omega (arith, length-append b.begun h.0))

pub kept_accepting : (m : Message) (b : WorldActor) → BeginsInOrder b → actor_view (with_accepted m b) ≡ view_with_message m (actor_view b)
kept_accepting m b h =
    let p : drop (length b.begun) (b.accepted ++ m ∷ []) ≡ drop (length b.begun) b.accepted ++ m ∷ [] = drop-append-le (length b.begun) b.accepted (m ∷ []) (begun_length b h) in
    let n : length (b.accepted ++ m ∷ []) ≡ length b.accepted + 1 = length-append b.accepted (m ∷ []) in
    rw (p, n) refl

pub pending_accepting : (m : Message) (b : WorldActor) → BeginsInOrder b → pending (with_accepted m b) ≡ pending b ++ m ∷ []
pending_accepting m b h = drop-append-le (length b.begun) b.accepted (m ∷ []) (begun_length b h)

pub pending_beginning : (m : Message) (b : WorldActor) (ms : List Message) → pending b ≡ m ∷ ms → pending (with_begun m b) ≡ ms
pending_beginning m b ms e =
    let n : length (b.begun ++ m ∷ []) ≡ length b.begun + 1 = length-append b.begun (m ∷ []) in
    rw n (drop_first (length b.begun) b.accepted m ms e)

pub kept_beginning : (m : Message) (b : WorldActor) (ms : List Message) → pending b ≡ m ∷ ms → actor_view (with_begun m b) ≡ view_after_begin (actor_view b)
kept_beginning m b ms e = rw (pending_beginning m b ms e, e) refl
