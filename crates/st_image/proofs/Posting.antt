-- Posts.
use Rattle.std.proofs.Common.{◌≡◌, ℕ, ◌+◌, ◌≤◌, ◌++◌, [], ◌∷◌, List, length, Option, Some, None, refl, ap, sym, ◌∙◌, slice_get, length-append}
use Rattle.std.specs.Prelude.{nat_lt}
use Rattle.st_classes.specs.declared.values.ActorId.{ActorId}
use Rattle.st_classes.specs.declared.edits.Edit.{Edit}
use Rattle.st_classes.specs.declared.refusals.Refusal.TheVariants.{HistoryFull}
use Rattle.st_classes.specs.Refusals.{first_of}
use Rattle.st_mailbox.specs.declared.messages.Message.{Message}
use Rattle.st_mailbox.specs.declared.messages.Sender.{Sender}
use Rattle.st_mailbox.specs.declared.messages.Sender.TheVariants.{Client, Actor}
use Rattle.st_image.specs.declared.settings.Settings.{Settings}
use Rattle.st_image.specs.declared.history.Item.{Item}
use Rattle.st_image.specs.declared.history.Item.TheVariants.{Posted}
use Rattle.st_image.specs.Worlds.{World, WorldActor, change, change_at}
use Rattle.st_image.specs.Replay.{with_accepted, with_last}
use Rattle.st_image.specs.PostRules.{IsClients, post_rules}
use Rattle.st_turn.specs.declared.tally.Tally.{Tally}
use Rattle.st_image.specs.ClaimsOut.{trimmed}
use Rattle.st_image.specs.EarlierCounts.{EarlierCounts}
use Rattle.st_image.specs.Counts.{most_counted}
use Rattle.st_image.specs.Images.{ImageView, Standing, counts_of, world, world_of, image_post_rules, no_room, too_many_posts, accepted_by}
use Rattle.st_image.specs.ActorViews.{ActorView, actor_view, view_with_message}
use Rattle.st_image.specs.ActResults.{constants_of}
use Rattle.st_image.specs.ImageInvariant.{IsImage}
use Rattle.st_image.proofs.Lists.{off, off_append}
use Rattle.st_image.proofs.Changing.{get-change}
use Rattle.st_image.proofs.Showing.{kept_at}
use Rattle.st_image.proofs.Keeping.{IsNext, first_room, has_room, posted_kept}

-- an image as callers see it
abbrev pub seen : World → List (List ℕ) → List Item → Settings → Standing → ImageView
seen base names h s beside = record { base = base; names = names; history = h; capacity = s.capacity; most_items = s.history; standing = beside }

-- what an image keeps beside its world, by its fields
abbrev pub standing_of : EarlierCounts → ℕ → List ℕ → List (List Tally) → Standing
standing_of earlier next_from out tallies = record { next_from = next_from; claims_out = trimmed out; tallies = tallies; earlier = earlier }

-- a post that isn't refused
pub record IsPosted (base : World) (names : List (List ℕ)) (edits : List Edit) (actors : List ActorView) (h : List Item) (made : ℕ) (s : Settings) (a : ActorId) (n : ℕ) : Type 0 where
  pub image : IsImage base names edits actors h made s
  pub place : n ≡ accepted_by (slice_get (world_of (constants_of names s.capacity) base h).actors a.0)

same_actors : (s : Sender) (n : ℕ) (w : World) → IsClients s → (with_last s n w).actors ≡ w.actors
same_actors (Client s) n w h = refl
same_actors (Actor a) n w h = absurd h

posted_option : (base : World) (names : List (List ℕ)) (edits : List Edit) (actors actors' : List ActorView) (h : List Item) (made : ℕ) (s : Settings) (n : ℕ) (a : ActorId) (m : Message) (o : Option WorldActor) → slice_get (world_of (constants_of names s.capacity) base h).actors a.0 ≡ o
    → IsImage base names edits actors h made s → first_of (post_rules names (world_of (constants_of names s.capacity) base h) o m) ≡ None → length h + 1 ≤ s.history → IsClients m.sender
    → IsNext base names edits actors' (h ++ Posted a m ∷ []) made s (with_last m.sender m.seq (change (with_accepted m) a (world_of (constants_of names s.capacity) base h))) → ((k : ActorView) → slice_get actors a.0 ≡ Some k → n ≡ k.accepted + 1)
    → IsPosted base names edits actors' (h ++ Posted a m ∷ []) made s a n
posted_option base names edits actors actors' h made s n a m None at k allowed room client after place = cc
posted_option base names edits actors actors' h made s n a m (Some b) at k allowed room client after place =
    let w : World = world_of (constants_of names s.capacity) base h in
    let there : slice_get actors a.0 ≡ Some (actor_view b) = kept_at edits actors w a.0 b k.shows at in
    let count : n ≡ length (b.accepted ++ m ∷ []) = place (actor_view b) there ∙ sym (length-append b.accepted (m ∷ [])) in
    let now : slice_get (world_of (constants_of names s.capacity) base (h ++ Posted a m ∷ [])).actors a.0 ≡ Some (with_accepted m b) =
    ap (λ (x : World). slice_get x.actors a.0) after.world ∙ ap (λ (xs : List WorldActor). slice_get xs a.0) (same_actors m.sender m.seq (change (with_accepted m) a w) client) ∙ get-change (with_accepted m) a.0 w.actors b at in
    record { image = after.image; place = count ∙ ap accepted_by (sym now) }

pub posted : (base : World) (names : List (List ℕ)) (edits : List Edit) (actors actors' : List ActorView) (h : List Item) (made : ℕ) (s : Settings) (from : Standing) (n : ℕ) (a : ActorId) (m : Message)
    → IsImage base names edits actors h made s → first_of (image_post_rules (seen base names h s from) a m) ≡ None → IsClients m.sender
    → actors' ≡ change_at (view_with_message m) a.0 actors → ((k : ActorView) → slice_get actors a.0 ≡ Some k → n ≡ k.accepted + 1)
    → IsPosted base names edits actors' (h ++ Posted a m ∷ []) made s a n
posted base names edits actors actors' h made s from n a m k allowed client put place =
    let w : World = world_of (constants_of names s.capacity) base h in
    let both = off_append (post_rules names w (slice_get w.actors a.0) m) (no_room (seen base names h s from) 1 ∷ too_many_posts (seen base names h s from) ∷ []) allowed in
    let room : length h + 1 ≤ s.history = first_room s.history (length h) 1 HistoryFull (too_many_posts (seen base names h s from) ∷ []) both.1 in
    posted_option base names edits actors actors' h made s n a m (slice_get w.actors a.0) refl k both.0 room client (posted_kept base names edits actors actors' h made s a m k both.0 client room put) place

-- a post that is not refused is counted
pub posts_room : (i : ImageView) (a : ActorId) (m : Message) → first_of (image_post_rules i a m) ≡ None → (counts_of i).posts + 1 ≤ most_counted
posts_room i a m allowed =
    let both = off_append (post_rules i.names (world i) (slice_get (world i).actors a.0) m) (no_room i 1 ∷ too_many_posts i ∷ []) allowed in
    let rest : first_of (too_many_posts i ∷ []) ≡ None = (off (nat_lt i.most_items (length i.history + 1)) HistoryFull (too_many_posts i ∷ []) both.1).1 in
    has_room most_counted (counts_of i).posts 1 HistoryFull rest
