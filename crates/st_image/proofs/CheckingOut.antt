-- Checkouts: a claim of an actor, whose next message may begin.
use Rattle.std.proofs.Common.{arith, ◌≡◌, ℕ, ◌+◌, ◌<◌, ◌≤◌, ◌++◌, [], ◌∷◌, List, length, Option, Some, None, Bool, true, false, cond, refl, ap, sym, ◌∙◌, subst, slice_get, slice_set, append-nil, inl, nat_lt}
use Rattle.std.specs.Prelude.{◌&&◌, ◌==◌}
use Rattle.std.specs.Option.{option_map}
use Rattle.std.proofs.lemmas.Bool.Decides.{nat_tests}
use Rattle.st_classes.specs.declared.values.ActorId.{ActorId}
use Rattle.st_classes.specs.declared.edits.Edit.{Edit}
use Rattle.st_classes.specs.declared.refusals.Refusal.TheVariants.{NothingToDo, HistoryFull}
use Rattle.st_classes.specs.Refusals.{first_of}
use Rattle.st_turn.specs.declared.body.Body.{Body}
use Rattle.st_turn.specs.Idle.{is_idle}
use Rattle.st_mailbox.specs.declared.messages.Message.{Message}
use Rattle.st_image.specs.declared.settings.Settings.{Settings}
use Rattle.st_image.specs.declared.history.Item.{Item}
use Rattle.st_image.specs.declared.history.Item.TheVariants.{Begun}
use Rattle.st_image.specs.Worlds.{World, WorldActor, change, change_at, pending}
use Rattle.st_image.specs.Replay.{with_begun, next_message}
use Rattle.st_image.specs.Images.{ImageView, Standing, appended, world, world_of}
use Rattle.st_image.specs.ActorViews.{ActorView, Shows, actor_view, view_after_begin, view_checked_out}
use Rattle.st_image.specs.ActResults.{constants_of}
use Rattle.st_image.specs.ImageInvariant.{CanRun, IsImage}
use Rattle.st_turn.specs.declared.tally.Tally.{Tally}
use Rattle.st_image.specs.ClaimsOut.{one_more}
use Rattle.st_turn.specs.Claims.{ClaimView}
use Rattle.st_image.specs.Changes.{change_count, changes_in}
use Rattle.st_image.specs.EarlierCounts.{EarlierCounts}
use Rattle.st_image.specs.Commits.{HasCheckedOut, after_checkout, checkout_rules, idle_at, new_claim, with_out}
use Rattle.st_image.proofs.Lists.{off, set_at_same}
use Rattle.st_image.proofs.Changing.{change_here, get-change}
use Rattle.st_image.proofs.Showing.{being_at_kept, kept_at}
use Rattle.st_image.proofs.Keeping.{IsNext, begun_kept}
use Rattle.st_image.proofs.Outer.{shown_runs}
use Rattle.st_image.proofs.Posting.{seen, standing_of}
use Rattle.st_image.proofs.CountingOut.{counts_out}

-- ---- a checkout

-- an image after a checkout of an actor, and the body that is handed out
pub record IsOut (base : World) (names : List (List ℕ)) (edits : List Edit) (actors : List ActorView) (h : List Item) (made : ℕ) (s : Settings) (a : ActorId) (body : Body) : Type 0 where
  pub image : IsImage base names edits actors h made s
  pub runs : CanRun edits a body
  pub being : WorldActor
  pub there : slice_get (world_of (constants_of names s.capacity) base h).actors a.0 ≡ Some being
  pub has : being.body ≡ body

first_pending : (ms : List Message) → (length ms == 0) ≡ false → (m : Message) × (slice_get ms 0 ≡ Some m)
first_pending [] e = cc
first_pending (m ∷ ms) e = (m, refl)

and_true : (t u : Bool) → t ≡ true → (t && u) ≡ false → u ≡ false
and_true true u e f = f
and_true false u e f = cc

-- the actor that is kept is idle in the world too
pub idle_there : (edits : List Edit) (actors : List ActorView) (w : World) (a : ActorId) (k : ActorView) → Shows edits actors w → slice_get actors a.0 ≡ Some k → idle_at (slice_get w.actors a.0) ≡ is_idle k.body.phase
idle_there edits actors w a k s at =
    let b = being_at_kept edits actors w a.0 k s at in
    ap idle_at b.1 ∙ ap (λ (x : ActorView). is_idle x.body.phase) b.2

out_by : (base : World) (names : List (List ℕ)) (edits : List Edit) (actors : List ActorView) (h : List Item) (made : ℕ) (s : Settings) (a : ActorId) (k : ActorView)
    → IsImage base names edits actors h made s → slice_get actors a.0 ≡ Some k → IsOut base names edits actors h made s a k.body
out_by base names edits actors h made s a k i at =
    let w : World = world_of (constants_of names s.capacity) base h in
    let b = being_at_kept edits actors w a.0 k i.shows at in
    record {
      image = i;
      runs = shown_runs names s.capacity edits actors w a k (record { shows = i.shows; world = i.world }) at;
      being = b.0;
      there = b.1;
      has = ap (λ (x : ActorView). x.body) b.2;
    }

out_view : (k : ActorView) (t : Bool) → is_idle k.body.phase ≡ t → view_checked_out k ≡ cond t (view_after_begin k) k
out_view k t e = ap (λ (b : Bool). cond b (view_after_begin k) k) e

-- an idle actor begins its first pending message
pub begins_out : (base : World) (names : List (List ℕ)) (edits : List Edit) (actors : List ActorView) (h : List Item) (made : ℕ) (s : Settings) (beside : Standing) (a : ActorId) (k : ActorView)
    → IsImage base names edits actors h made s → first_of (checkout_rules (seen base names h s beside) (slice_get (world_of (constants_of names s.capacity) base h).actors a.0)) ≡ None → slice_get actors a.0 ≡ Some k → is_idle k.body.phase ≡ true
    → IsOut base names edits (change_at view_checked_out a.0 actors) (h ++ Begun a ∷ []) made s a (view_checked_out k).body
begins_out base names edits actors h made s beside a k i allowed at idle =
    let w : World = world_of (constants_of names s.capacity) base h in
    let b = being_at_kept edits actors w a.0 k i.shows at in
    let idle' : is_idle b.0.body.phase ≡ true = ap (λ (y : ActorView). is_idle y.body.phase) b.2 ∙ idle in
    let rules : first_of (checkout_rules (seen base names h s beside) (Some b.0)) ≡ None = subst (λ (o : Option WorldActor). first_of (checkout_rules (seen base names h s beside) o) ≡ None) b.1 allowed in
    let both = off (is_idle b.0.body.phase && (length (pending b.0) == 0)) NothingToDo ((is_idle b.0.body.phase && nat_lt s.history (length h + 1), HistoryFull) ∷ []) rules in
    let some = first_pending (pending b.0) (and_true (is_idle b.0.body.phase) (length (pending b.0) == 0) idle' both.0) in
    let m : Message = some.0 in
    let last = off (is_idle b.0.body.phase && nat_lt s.history (length h + 1)) HistoryFull [] both.1 in
    let room : length h + 1 ≤ s.history = (let full : nat_lt s.history (length h + 1) ≡ false = and_true (is_idle b.0.body.phase) (nat_lt s.history (length h + 1)) idle' last.0 in grind (arith, nat_tests)) in
    let first : next_message (slice_get w.actors a.0) ≡ Some m = ap next_message b.1 ∙ ap (λ (t : Bool). cond t (slice_get (pending b.0) 0) None) idle' ∙ some.1 in
    let put : change_at view_checked_out a.0 actors ≡ change_at view_after_begin a.0 actors = change_here view_checked_out a.0 actors k at ∙ ap (λ (x : ActorView). slice_set actors a.0 x) (out_view k true idle) ∙ sym (change_here view_after_begin a.0 actors k at) in
    let after : IsNext base names edits (change_at view_checked_out a.0 actors) (h ++ Begun a ∷ []) made s (change (with_begun m) a w) = begun_kept base names edits actors (change_at view_checked_out a.0 actors) h made s a m i first room put in
    out_by base names edits (change_at view_checked_out a.0 actors) (h ++ Begun a ∷ []) made s a (view_checked_out k) after.image (get-change view_checked_out a.0 actors k at)

-- an actor that is in a turn is handed out as it is
pub goes_out : (base : World) (names : List (List ℕ)) (edits : List Edit) (actors : List ActorView) (h : List Item) (made : ℕ) (s : Settings) (a : ActorId) (k : ActorView)
    → IsImage base names edits actors h made s → slice_get actors a.0 ≡ Some k → is_idle k.body.phase ≡ false
    → IsOut base names edits (change_at view_checked_out a.0 actors) h made s a (view_checked_out k).body
goes_out base names edits actors h made s a k i at busy =
    let same : view_checked_out k ≡ k = out_view k false busy in
    let put : change_at view_checked_out a.0 actors ≡ actors = change_here view_checked_out a.0 actors k at ∙ set_at_same actors a.0 (view_checked_out k) (at ∙ ap Some (sym same)) in
    let out : IsOut base names edits actors h made s a k.body = out_by base names edits actors h made s a k i at in
    subst (λ (xs : List ActorView). IsOut base names edits xs h made s a (view_checked_out k).body) (sym put) (subst (λ (x : ActorView). IsOut base names edits actors h made s a x.body) (sym same) out)

-- an actor whose checkout is not refused is kept
pub hands : (base : World) (names : List (List ℕ)) (edits : List Edit) (actors : List ActorView) (h : List Item) (made : ℕ) (s : Settings) (beside : Standing) (a : ActorId)
    → IsImage base names edits actors h made s → first_of (checkout_rules (seen base names h s beside) (slice_get (world_of (constants_of names s.capacity) base h).actors a.0)) ≡ None → (k : ActorView) × (slice_get actors a.0 ≡ Some k)
hands base names edits actors h made s beside a i allowed =
    let w : World = world_of (constants_of names s.capacity) base h in
    let b = being (seen base names h s beside) (slice_get w.actors a.0) allowed in
    (actor_view b.0, kept_at edits actors w a.0 b.0 i.shows b.1)
  where
    being : (v : ImageView) (o : Option WorldActor) → first_of (checkout_rules v o) ≡ None → (b : WorldActor) × (o ≡ Some b)
    being v None e = cc
    being v (Some b) e = (b, refl)

-- what a checkout adds to the history
abbrev pub begun_items : Bool → ActorId → List Item
begun_items true a = Begun a ∷ []
begun_items false a = []

-- either way
pub outs : (base : World) (names : List (List ℕ)) (edits : List Edit) (actors : List ActorView) (h : List Item) (made : ℕ) (s : Settings) (beside : Standing) (a : ActorId) (k : ActorView) (t : Bool)
    → IsImage base names edits actors h made s → first_of (checkout_rules (seen base names h s beside) (slice_get (world_of (constants_of names s.capacity) base h).actors a.0)) ≡ None → slice_get actors a.0 ≡ Some k → is_idle k.body.phase ≡ t
    → IsOut base names edits (change_at view_checked_out a.0 actors) (h ++ begun_items t a) made s a (view_checked_out k).body
outs base names edits actors h made s beside a k true i allowed at e = begins_out base names edits actors h made s beside a k i allowed at e
outs base names edits actors h made s beside a k false i allowed at e = subst (λ (x : List Item). IsOut base names edits (change_at view_checked_out a.0 actors) x made s a (view_checked_out k).body) (sym (append-nil h)) (goes_out base names edits actors h made s a k i at e)

checked_by : (i : ImageView) (a : ActorId) (t : Bool) → idle_at (slice_get (world i).actors a.0) ≡ t → after_checkout i a ≡ (let b : ImageView = record (appended i (begun_items t a)) { standing = record i.standing { next_from = a.0 + 1 } } in b)
checked_by i a true e = rw e refl
checked_by i a false e = rw e (ap (λ (x : List Item). let b : ImageView = record i { history = x; standing = record i.standing { next_from = a.0 + 1 } } in b) (sym (append-nil i.history)))

-- what callers see of a checkout
pub checked : (base : World) (names : List (List ℕ)) (edits : List Edit) (actors : List ActorView) (h : List Item) (made : ℕ) (s : Settings) (earlier : EarlierCounts) (n : ℕ) (out : List ℕ) (rows : List (List Tally)) (a : ActorId) (k : ActorView) (t : Bool) (c : ClaimView) (stamp : ℕ)
    → IsImage base names edits actors h made s → slice_get actors a.0 ≡ Some k → a.0 < length out → is_idle k.body.phase ≡ t
    → IsOut base names edits (change_at view_checked_out a.0 actors) (h ++ begun_items t a) made s a (view_checked_out k).body
    → c ≡ new_claim edits a (view_checked_out k).body stamp → stamp ≡ change_count earlier.changes a.0 + changes_in (h ++ begun_items t a) a.0
    → HasCheckedOut (seen base names h s (standing_of earlier n out rows)) a c (seen base names (h ++ begun_items t a) s (standing_of earlier (a.0 + 1) (change_at one_more a.0 out) rows))
checked base names edits actors h made s earlier n out rows a k t c stamp i at within e o claim stamped =
    let old : ImageView = seen base names h s (standing_of earlier n out rows) in
    let new : ImageView = seen base names (h ++ begun_items t a) s (standing_of earlier (a.0 + 1) (change_at one_more a.0 out) rows) in
    let was : idle_at (slice_get (world old).actors a.0) ≡ t = idle_there edits actors (world old) a k i.shows at ∙ e in
    record {
      body = (view_checked_out k).body;
      there = ap (option_map (λ (b : WorldActor). b.body)) o.there ∙ ap Some o.has;
      claim = claim ∙ ap (λ (es : List Edit). new_claim es a (view_checked_out k).body stamp) i.shows.edits_are ∙ ap (new_claim (world old).edits a (view_checked_out k).body) stamped;
      image = ap (λ (x : ImageView). with_out x new) (sym (checked_by old a t was));
      counted = counts_out one_more a old new out (change_at one_more a.0 out) refl refl refl (inl within);
    }
