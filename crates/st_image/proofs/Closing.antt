-- Mailboxes that close.
use Rattle.std.proofs.Common.{arith, ◌≡◌, ℕ, ◌+◌, ◌≤◌, ◌++◌, [], ◌∷◌, List, length, Some, None, Option, true, false, refl, sym, subst, slice_get}
use Rattle.std.specs.Prelude.{Bool, not}
use Rattle.st_classes.specs.declared.values.ActorId.{ActorId}
use Rattle.st_classes.specs.declared.edits.Edit.{Edit}
use Rattle.st_classes.specs.declared.refusals.Refusal.TheVariants.{Closed as IsClosed}
use Rattle.st_classes.specs.Refusals.{first_of}
use Rattle.st_image.specs.declared.settings.Settings.{Settings}
use Rattle.st_image.specs.declared.history.Item.{Item}
use Rattle.st_image.specs.declared.history.Item.TheVariants.{Closed}
use Rattle.st_image.specs.Worlds.{Constants, World, WorldActor, change, change_at}
use Rattle.st_image.specs.Replay.{is_open_at, next}
use Rattle.st_image.specs.Images.{close_rules, no_room, world_of, Standing}
use Rattle.st_image.specs.ActorViews.{ActorView, Shows}
use Rattle.st_image.specs.ImageInvariant.{IsImage}
use Rattle.st_image.specs.ActResults.{constants_of}
use Rattle.st_image.proofs.Changing.{All-change}
use Rattle.st_image.proofs.Lists.{off}
use Rattle.st_image.proofs.Keeping.{AcceptAtMost, accept_more, has_room, pushed, through}
use Rattle.st_image.proofs.Posting.{seen}
use Rattle.st_image.proofs.Showing.{shows_change}

-- a mailbox that closes
abbrev pub shut : ActorView → ActorView
shut k = record k { is_open = false }

open_by : (b : Bool) → not b ≡ false → b ≡ true
open_by true e = refl
open_by false e = cc

-- no refusal of a close leaves an actor whose mailbox is open, and room for the item
may_close : (i : _) (limit count : ℕ) (o : Option WorldActor) → first_of (close_rules i o) ≡ None → (is_open_at o ≡ true) × (first_of (no_room i 1 ∷ []) ≡ None)
may_close i limit count None e = cc
may_close i limit count (Some b) e = let o1 = off (not b.is_open) IsClosed (no_room i 1 ∷ []) e in (open_by b.is_open o1.0, o1.1)

pub closed : (base : World) (names : List (List ℕ)) (edits : List Edit) (actors actors' : List ActorView) (h : List Item) (made : ℕ) (s : Settings) (from : Standing) (a : ActorId)
    → IsImage base names edits actors h made s
    → first_of (close_rules (seen base names h s from) (slice_get (world_of (constants_of names s.capacity) base h).actors a.0)) ≡ None
    → actors' ≡ change_at shut a.0 actors
    → IsImage base names edits actors' (h ++ Closed a ∷ []) made s
closed base names edits actors actors' h made s from a k allowed e =
    let c : Constants = constants_of names s.capacity in
    let w : World = world_of c base h in
    let v : World = change (λ b. record b { is_open = false }) a w in
    let may = may_close (seen base names h s from) 0 0 (slice_get w.actors a.0) allowed in
    let now : next c w (Closed a) ≡ Some v = through (is_open_at (slice_get w.actors a.0)) v may.0 in
    let shows : Shows edits actors' v = shows_change edits actors actors' w a (λ b. record b { is_open = false }) shut k.shows (λ x at. refl) e in
    let acc : AcceptAtMost (length h + 1024 + 1) (change_at shut a.0 actors) = All-change (λ (x : ActorView). x.accepted ≤ length h + 1024 + 1) shut a.0 actors (λ x at p. p) (accept_more (length h + 1024) actors k.few_accepted) in
    (pushed base names edits edits actors actors' h made made s (Closed a) v k tt now shows (omega arith) (has_room s.history (length h) 1 _ may.1) (subst (AcceptAtMost (length h + 1024 + 1)) (sym e) acc)).image
