-- Posts of an actor that nothing takes, and what they leave.
use Rattle.std.proofs.Common.{arith, ◌≡◌, ℕ, ◌+◌, ◌-◌, ◌^◌, ◌<◌, ◌≤◌, List, length, Option, Some, None, Bool, true, false, cond, refl, ap, sym, ◌∙◌, subst, slice_get, is_some}
use Rattle.std.specs.Prelude.{nat_lt, is_none}
use Rattle.std.proofs.lemmas.Bool.Decides.{nat_tests}
use Rattle.st_classes.specs.declared.values.ActorId.{ActorId}
use Rattle.st_classes.specs.declared.values.Selector.{Selector}
use Rattle.st_classes.specs.declared.values.Value.{Value}
use Rattle.st_classes.specs.declared.edits.Edit.{Edit}
use Rattle.st_classes.specs.Refusals.{first_of}
use Rattle.st_mailbox.specs.declared.messages.Sender.TheVariants.{Actor}
use Rattle.st_image.specs.Worlds.{Constants, World, change}
use Rattle.st_image.specs.PostRules.{post_rules}
use Rattle.st_image.specs.Replay.{after_post, after_post_by, only_if, with_accepted, with_last}
use Rattle.st_image.specs.ActorViews.{ActorView, Shows}
use Rattle.st_image.specs.ActResults.{GrowsByOne, IsShown, Tries, constants_of}
use Rattle.st_image.proofs.Acts.{message_of}
use Rattle.st_image.proofs.Changing.{within_back}
use Rattle.st_image.proofs.Keeping.{accept_more}
use Rattle.st_image.proofs.Showing.{being_at_kept}

-- what is within a list is there
pub there_is_one : {X : Type 0} (xs : List X) (a : ℕ) → a < length xs → slice_get xs a ≡ None → ⊥
there_is_one xs a h e =
    let at = within_back xs a (length xs) h refl in
    let both : Some at.0 ≡ None = sym at.1 ∙ e in
    cc

tries_none : (edits : List Edit) (actors : List ActorView) (w : World) (o : Option World) → o ≡ None → Shows edits actors w → Tries edits actors w o false
tries_none edits actors w o e s = subst (λ (x : Option World). Tries edits actors w x false) (sym e) (s, refl)

not_below : (n m : ℕ) → n ≡ m → 2 ^ 64 - 1 ≤ m → nat_lt n (2 ^ 64 - 1) ≡ false
not_below n m e h = grind (arith, nat_tests)

-- an actor that has sent its last number posts no more
pub post_at_end : (names : List (List ℕ)) (capacity : ℕ) (edits : List Edit) (actors : List ActorView) (w : World) (a to : ActorId) (s : Selector) (args : List Value) (k : ActorView) → IsShown names capacity edits actors w → slice_get actors a.0 ≡ Some k → 2 ^ 64 - 1 ≤ k.last
    → Tries edits actors w (after_post_by (constants_of names capacity) to s args a w (slice_get w.actors a.0)) false
post_at_end names capacity edits actors w a to s args k i at full =
    let c : Constants = constants_of names capacity in
    let b = being_at_kept edits actors w a.0 k i.shows at in
    let below : nat_lt b.0.last (2 ^ 64 - 1) ≡ false = not_below b.0.last k.last (ap (λ (x : ActorView). x.last) b.2) full in
    let none : after_post_by c to s args a w (slice_get w.actors a.0) ≡ None = ap (after_post_by c to s args a w) b.1 ∙ ap (λ (t : Bool). cond t (after_post c w to (message_of a (b.0.last + 1) s args)) None) below in
    tries_none edits actors w (after_post_by c to s args a w (slice_get w.actors a.0)) none i.shows

some_is_not : {X : Type 0} (o : Option X) → is_some o ≡ true → is_none o ≡ false
some_is_not None e = cc
some_is_not (Some x) e = refl

either_none : (t u : Bool) (v : World) → u ≡ false → cond t (only_if u v) None ≡ None
either_none true u v e = ap (λ (b : Bool). only_if b v) e
either_none false u v e = refl

-- a post that is refused does nothing
pub post_refused : (names : List (List ℕ)) (capacity : ℕ) (edits : List Edit) (actors : List ActorView) (w : World) (a to : ActorId) (s : Selector) (args : List Value) (k : ActorView) (n : ℕ) → IsShown names capacity edits actors w → slice_get actors a.0 ≡ Some k → n ≡ k.last + 1
    → is_some (first_of (post_rules names w (slice_get w.actors to.0) (message_of a n s args))) ≡ true
    → Tries edits actors w (after_post_by (constants_of names capacity) to s args a w (slice_get w.actors a.0)) false
post_refused names capacity edits actors w a to s args k n i at next refused =
    let c : Constants = constants_of names capacity in
    let b = being_at_kept edits actors w a.0 k i.shows at in
    let m = message_of a (b.0.last + 1) s args in
    let number : n ≡ b.0.last + 1 = next ∙ ap (λ (x : ActorView). x.last + 1) (sym b.2) in
    let not : is_none (first_of (post_rules names w (slice_get w.actors to.0) m)) ≡ false = some_is_not (first_of (post_rules names w (slice_get w.actors to.0) m)) (subst (λ (x : ℕ). is_some (first_of (post_rules names w (slice_get w.actors to.0) (message_of a x s args))) ≡ true) number refused) in
    let none : after_post_by c to s args a w (slice_get w.actors a.0) ≡ None = ap (after_post_by c to s args a w) b.1 ∙ either_none (nat_lt b.0.last (2 ^ 64 - 1)) (is_none (first_of (post_rules names w (slice_get w.actors to.0) m))) (with_last (Actor a) (b.0.last + 1) (change (with_accepted m) to w)) not in
    tries_none edits actors w (after_post_by c to s args a w (slice_get w.actors a.0)) none i.shows

-- where nothing changes
pub grows_not : (actors : List ActorView) → GrowsByOne actors actors
grows_not actors = λ bound h. accept_more bound actors h
