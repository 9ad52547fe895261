-- Images that begin anew with their present world.
use Rattle.std.proofs.Common.{arith, ◌≡◌, ℕ, ◌+◌, ◌*◌, ◌≤◌, ◌++◌, [], ◌∷◌, List, Option, Some, None, refl, ap, sym, ◌∙◌, subst, length, length-append, map, slice_get, zero-add, Bool}
use Rattle.std.specs.Prelude.{All, ◌&&◌, ◌==◌}
use Rattle.std.specs.Option.{option_map}
use Rattle.std.proofs.lemmas.List.{length-map}
use Rattle.std.proofs.lemmas.List.Elements.{All-map, All-nil, All-weaker}
use Rattle.std.proofs.lemmas.Option.{slice_get-map}
use Rattle.st_classes.specs.declared.edits.Edit.{Edit}
use Rattle.st_image.specs.declared.history.Item.{Item}
use Rattle.st_image.specs.declared.history.Item.TheVariants.{Edited, Created, Posted, Closed, Begun, Ran}
use Rattle.st_image.specs.declared.settings.Settings.{Settings}
use Rattle.st_image.specs.Worlds.{Constants, World, WorldActor}
use Rattle.st_image.specs.Replay.{replay}
use Rattle.st_image.specs.Counts.{edits_of, weigh}
use Rattle.st_image.specs.Images.{world_of}
use Rattle.st_image.specs.Parts.{part_of, rebase, rebased, world_of_parts}
use Rattle.st_image.specs.WorldInvariant.{HaveTurns, IsSoundItem, IsWorld, IsWorldActor}
use Rattle.st_image.specs.Senders.{InSendingOrder}
use Rattle.st_image.specs.RanTargets.{edits_among}
use Rattle.st_image.specs.ActorViews.{ActorView, AreActors, Shows, actor_view, is_ready_in, view_anew}
use Rattle.st_image.specs.ClaimsOut.{claims_of}
use Rattle.st_image.specs.ActResults.{constants_of}
use Rattle.st_image.specs.Changes.{change_count}
use Rattle.st_image.specs.EarlierCounts.{EarlierCounts}
use Rattle.st_image.specs.ImageInvariant.{FitsBase, IsImage, turns_open}
use Rattle.st_image.proofs.Bases.{base_turns}
use Rattle.st_image.proofs.GrowingEdits.{replay_edits}
use Rattle.st_image.proofs.Rebasing.{rebase_is, rebased_fits}

-- ---- actors

map_anew : (bs : List WorldActor) → map view_anew (map actor_view bs) ≡ map actor_view (map rebased bs)
map_anew [] = refl
map_anew (b ∷ bs) = ap (λ (ks : List ActorView). actor_view (rebased b) ∷ ks) (map_anew bs)

pub shows_anew : (edits : List Edit) (ks : List ActorView) (w : World) → Shows edits ks w → Shows edits (map view_anew ks) (rebase w)
shows_anew edits ks w s = record { edits_are = s.edits_are; actors_are = ap (map view_anew) s.actors_are ∙ map_anew w.actors }

ready_anew : (ks : List ActorView) (n : ℕ) → is_ready_in (map view_anew ks) n ≡ is_ready_in ks n
ready_anew ks n = by (slice_get ks n) refl
  where
    by : (o : Option ActorView) → slice_get ks n ≡ o → is_ready_in (map view_anew ks) n ≡ is_ready_in ks n
    by None e = let there : slice_get (map view_anew ks) n ≡ None = slice_get-map view_anew ks n ∙ ap (option_map view_anew) e in rw (there, e) refl
    by (Some k) e = let there : slice_get (map view_anew ks) n ≡ Some (view_anew k) = slice_get-map view_anew ks n ∙ ap (option_map view_anew) e in rw (there, e) refl

-- as many are free as before
pub free_anew : (ks : List ActorView) (out : List ℕ) (free : List Bool) → AreActors (record { list = ks; out = out }) free → AreActors (record { list = map view_anew ks; out = out }) free
free_anew ks out free h = record {
  flags = λ n. h.flags n ∙ ap (λ (t : Bool). t && (claims_of out n == 0)) (sym (ready_anew ks n));
  each_flag = omega (arith, h.each_flag, length-map ks view_anew);
  each_count = omega (arith, h.each_count, length-map ks view_anew);
  few = omega (arith, h.few, length-map ks view_anew);
}

-- ---- the world

pub world_anew : (c : Constants) (w : World) → IsWorld c w → IsWorld c (rebase w)
world_anew c w h =
    let n : ℕ = length w.actors in
    let each : All (λ (b : WorldActor). IsWorldActor c.names w.edits n (rebased b)) w.actors = All-weaker (IsWorldActor c.names w.edits n) (λ (b : WorldActor). IsWorldActor c.names w.edits n (rebased b)) (rebased_fits c.names w.edits n) w.actors h.actors in
    record {
      constants = h.constants;
      lawful = h.lawful;
      suited = h.suited;
      sound = h.sound;
      actors = subst (λ (m : ℕ). All (IsWorldActor c.names w.edits m) (map rebased w.actors)) (sym (length-map w.actors rebased)) (All-map (IsWorldActor c.names w.edits n) rebased w.actors each);
      clients = h.clients;
    }

pub turns_anew : (w : World) → HaveTurns (rebase w) (rebase w)
turns_anew w = subst (λ (x : World). HaveTurns x x) (sym (rebase_is w)) (base_turns w.edits (map part_of w.actors) w.clients)

few_pending : (names : List (List ℕ)) (edits : List Edit) (n : ℕ) (b : WorldActor) → IsWorldActor names edits n b → (actor_view (rebased b)).accepted ≤ 0 + 1024
few_pending names edits n b h = omega (arith, h.within, h.few_messages)

few_anew : (c : Constants) (w : World) → IsWorld c w → All (λ (k : ActorView). k.accepted ≤ 0 + 1024) (map actor_view (map rebased w.actors))
few_anew c w h = All-map (λ (k : ActorView). k.accepted ≤ 0 + 1024) actor_view (map rebased w.actors) (All-map (λ (b : WorldActor). (actor_view b).accepted ≤ 0 + 1024) rebased w.actors (All-weaker (IsWorldActor c.names w.edits (length w.actors)) (λ (b : WorldActor). (actor_view (rebased b)).accepted ≤ 0 + 1024) (few_pending c.names w.edits (length w.actors)) w.actors h.actors))

-- the image at its present world
pub image_anew : (base : World) (names : List (List ℕ)) (edits : List Edit) (actors : List ActorView) (h : List Item) (made : ℕ) (s : Settings) → IsImage base names edits actors h made s → InSendingOrder (rebase (world_of (constants_of names s.capacity) base h)) → IsImage (rebase (world_of (constants_of names s.capacity) base h)) names edits (map view_anew actors) [] 0 s
unfolding world_of
image_anew base names edits actors h made s k order =
    let c : Constants = constants_of names s.capacity in
    let w : World = world_of c base h in
    let shows : Shows edits (map view_anew actors) (rebase w) = shows_anew edits actors w k.shows in
    record {
      base_is = world_anew c w k.world;
      senders = order;
      sound = All-nil IsSoundItem;
      lawful = refl;
      shows = shows;
      world = world_anew c w k.world;
      turns = turns_anew w;
      counted = refl;
      numbers = k.numbers;
      few_items = omega arith;
      few_accepted = subst (λ (ks : List ActorView). All (λ (x : ActorView). x.accepted ≤ 0 + 1024) ks) (sym shows.actors_are) (few_anew c w k.world);
    }

-- ---- what was counted

-- an actor is in a turn as before
pub open_anew : (w : World) (a : ℕ) → turns_open (slice_get (rebase w).actors a) ≡ turns_open (slice_get w.actors a)
open_anew w a = ap turns_open (slice_get-map rebased w.actors a) ∙ by (slice_get w.actors a)
  where
    by : (o : Option WorldActor) → turns_open (option_map rebased o) ≡ turns_open o
    by None = refl
    by (Some b) = refl

pub edits_counted : (is : List Item) → length (edits_among is) ≡ weigh edits_of is
edits_counted [] = refl
edits_counted (Edited e ∷ is) = let more = edits_counted is in omega (arith, more)
edits_counted (Created c ∷ is) = edits_counted is ∙ sym (zero-add (weigh edits_of is))
edits_counted (Posted a m ∷ is) = edits_counted is ∙ sym (zero-add (weigh edits_of is))
edits_counted (Closed a ∷ is) = edits_counted is ∙ sym (zero-add (weigh edits_of is))
edits_counted (Begun a ∷ is) = edits_counted is ∙ sym (zero-add (weigh edits_of is))
edits_counted (Ran a n ∷ is) = edits_counted is ∙ sym (zero-add (weigh edits_of is))

-- the edits of a run are among those of the table
pub edits_bounded : (c : Constants) (base w : World) (h : List Item) (earlier : ℕ) → earlier ≤ length base.edits → replay c base h ≡ Some w → earlier + weigh edits_of h ≤ length w.edits
edits_bounded c base w h earlier few e =
    let all : length w.edits ≡ length (base.edits ++ edits_among h) = ap (λ (es : List Edit). length es) (replay_edits c base w h e) in
    omega (arith, all, length-append base.edits (edits_among h), edits_counted h, few)

-- ---- the base

pub order_anew : (w : World) → InSendingOrder (world_of_parts w.edits (map part_of w.actors) w.clients) → InSendingOrder (rebase w)
order_anew w order = subst InSendingOrder (sym (rebase_is w)) order

-- what was counted fits the base
pub fits_anew : (w : World) (e : EarlierCounts) (steps : ℕ) (changed : ℕ → ℕ) → e.edits ≤ length w.edits → e.steps ≡ steps → ((a : ℕ) → change_count e.changes a ≡ changed a) → ((a : ℕ) → changed a ≤ 2 * steps + turns_open (slice_get w.actors a)) → FitsBase e (rebase w)
fits_anew w e steps changed few same counts bounds = record {
  edits = few;
  changes = λ a. omega (arith, same, counts a, bounds a, open_anew w a);
}
