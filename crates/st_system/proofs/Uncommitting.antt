-- What the events of workers leave, where nothing is committed.
use Rattle.std.proofs.Common.{arith, ◌≡◌, ◌+◌, ℕ, [], ◌∷◌, ◌++◌, List, Option, Some, None, Result, Ok, Err, Bool, true, false, refl, ap, sym, ◌∙◌, subst, append_assoc, append-nil, length-append, map, slice_get}
use Rattle.std.proofs.lemmas.List.{map-append}
use Rattle.std.specs.Prelude.{if◌then◌else◌}
use Rattle.std.specs.List.{list_all}
use Rattle.std.proofs.lemmas.Bool.{and_parts}
use Rattle.st_classes.specs.declared.values.ActorId.{ActorId}
use Rattle.st_classes.specs.declared.refusals.Refusal.{Refusal}
use Rattle.st_turn.specs.Claims.{ClaimView}
use Rattle.st_image.specs.declared.history.Item.{Item}
use Rattle.st_image.specs.declared.history.Item.TheVariants.{Begun}
use Rattle.st_image.specs.Images.{ImageView, appended, world}
use Rattle.st_image.specs.Commits.{ChecksOut, idle_at, with_out}
use Rattle.st_image.specs.WorldInvariant.{settings_of}
use Rattle.st_system.specs.declared.events.Answer.{Answer}
use Rattle.st_system.specs.declared.events.Event.{Event}
use Rattle.st_system.specs.declared.events.Event.TheVariants.{Checkout, Local, Release, Forget}
use Rattle.st_system.specs.Schedules.{BareClaim, Schedule}
use Rattle.st_system.specs.ClaimEvents.{AtWorker, KeepsClaim, OfClaim, ReleasesClaim, StepsClaim, TakesClaim}
use Rattle.st_system.specs.Acts.{Acts, Runs}
use Rattle.st_system.specs.Uncommitted.{LeavesNothing, OnlyBegins, checkouts, is_apart, is_uncommitted}

-- ---- nothing but how many claims are out

stays : (i j : ImageView) → j ≡ i → j ≡ with_out i j
stays i j h = subst (λ (x : ImageView). x ≡ with_out i x) (sym h) refl

stays_both : (i j k : ImageView) → j ≡ with_out i j → k ≡ with_out j k → k ≡ with_out i k
stays_both i j k h g = g ∙ ap (λ (x : ImageView). with_out x k) h

local_apart : (S T : Schedule) (w : ℕ) (r : Result Answer Refusal) (o : Option (Option BareClaim)) → AtWorker (OfClaim StepsClaim) S w r T o → T.image ≡ with_out S.image T.image
local_apart S T w r None h = stays S.image T.image (ap (λ (X : Schedule). X.image) h.1)
local_apart S T w r (Some None) h = stays S.image T.image h.1.1
local_apart S T w r (Some (Some c)) h = stays S.image T.image h.1.4

release_apart : (S T : Schedule) (w : ℕ) (r : Result Answer Refusal) (o : Option (Option BareClaim)) → AtWorker (OfClaim ReleasesClaim) S w r T o → T.image ≡ with_out S.image T.image
release_apart S T w r None h = stays S.image T.image (ap (λ (X : Schedule). X.image) h.1)
release_apart S T w r (Some None) h = stays S.image T.image h.1.1
release_apart S T w r (Some (Some c)) h = h.1.1.image

forget_apart : (S T : Schedule) (w : ℕ) (r : Result Answer Refusal) (o : Option (Option BareClaim)) → AtWorker KeepsClaim S w r T o → T.image ≡ with_out S.image T.image
forget_apart S T w r None h = stays S.image T.image (ap (λ (X : Schedule). X.image) h.1)
forget_apart S T w r (Some c) h = stays S.image T.image h.1.1

one_apart : (S T : Schedule) (e : Event) (r : Result Answer Refusal) → is_apart e ≡ true → Acts S e r T → T.image ≡ with_out S.image T.image
one_apart S T (Local w) r p h = local_apart S T w r (slice_get S.claims w) h
one_apart S T (Release w) r p h = release_apart S T w r (slice_get S.claims w) h
one_apart S T (Forget w) r p h = forget_apart S T w r (slice_get S.claims w) h
one_apart S T e r p h = cc

apart_runs : (S T : Schedule) (es : List Event) (rs : List (Result Answer Refusal)) → list_all is_apart es ≡ true → Runs S es rs T → T.image ≡ with_out S.image T.image
apart_runs S T [] [] p h = stays S.image T.image (ap (λ (X : Schedule). X.image) h)
apart_runs S T (e ∷ es) (r ∷ rs) p h =
    let both = and_parts (is_apart e) (list_all is_apart es) p in
    stays_both S.image h.0.image T.image (one_apart S h.0 e r both.0 h.1) (apart_runs h.0 T es rs both.1 h.2)
apart_runs S T [] (r ∷ rs) p h = absurd h
apart_runs S T (e ∷ es) [] p h = absurd h

-- ---- beginnings of turns alone

none_begun : (n : ℕ) (i j : ImageView) → j ≡ with_out i j → OnlyBegins n i j
none_begun n i j h = record {
  begun = [];
  few = omega arith;
  history = ap (λ (x : ImageView). x.history) h ∙ sym (append-nil i.history);
  base = ap (λ (x : ImageView). x.base) h;
  names = ap (λ (x : ImageView). x.names) h;
  settings = ap settings_of h;
  tallies = ap (λ (x : ImageView). x.standing.tallies) h;
  earlier = ap (λ (x : ImageView). x.standing.earlier) h;
}

begun_both : (m n : ℕ) (i j k : ImageView) → OnlyBegins m i j → OnlyBegins n j k → OnlyBegins (n + m) i k
begun_both m n i j k h g = record {
  begun = h.begun ++ g.begun;
  few = omega (arith, length-append h.begun g.begun, h.few, g.few);
  history = g.history
      ∙ ap (λ (xs : List Item). xs ++ map Begun g.begun) h.history
      ∙ append_assoc i.history (map Begun h.begun) (map Begun g.begun)
      ∙ ap (λ (xs : List Item). i.history ++ xs) (sym (map-append Begun h.begun g.begun));
  base = g.base ∙ h.base;
  names = g.names ∙ h.names;
  settings = g.settings ∙ h.settings;
  tallies = g.tallies ∙ h.tallies;
  earlier = g.earlier ∙ h.earlier;
}

checked_out : (idle : Bool) (i j : ImageView) (a : ActorId) → j ≡ with_out (let begun : ImageView = if idle then appended i (Begun a ∷ []) else i in record begun { standing = record begun.standing { next_from = a.0 + 1 } }) j → OnlyBegins 1 i j
checked_out true i j a h = record {
  begun = a ∷ [];
  few = omega arith;
  history = ap (λ (x : ImageView). x.history) h;
  base = ap (λ (x : ImageView). x.base) h;
  names = ap (λ (x : ImageView). x.names) h;
  settings = ap settings_of h;
  tallies = ap (λ (x : ImageView). x.standing.tallies) h;
  earlier = ap (λ (x : ImageView). x.standing.earlier) h;
}
checked_out false i j a h = record {
  begun = [];
  few = omega arith;
  history = ap (λ (x : ImageView). x.history) h ∙ sym (append-nil i.history);
  base = ap (λ (x : ImageView). x.base) h;
  names = ap (λ (x : ImageView). x.names) h;
  settings = ap settings_of h;
  tallies = ap (λ (x : ImageView). x.standing.tallies) h;
  earlier = ap (λ (x : ImageView). x.standing.earlier) h;
}

checks_out_begins : (i j : ImageView) (a : ActorId) (r : Result ClaimView Refusal) → ChecksOut i a r j → OnlyBegins 1 i j
checks_out_begins i j a (Ok c) h = checked_out (idle_at (slice_get (world i).actors a.0)) i j a h.0.1.image
checks_out_begins i j a (Err e) h = none_begun 1 i j (stays i j h.1)

checkout_begins : (S T : Schedule) (w : ℕ) (a : ActorId) (r : Result Answer Refusal) (o : Option (Option BareClaim)) → AtWorker (TakesClaim a) S w r T o → OnlyBegins 1 S.image T.image
checkout_begins S T w a r None h = none_begun 1 S.image T.image (stays S.image T.image (ap (λ (X : Schedule). X.image) h.1))
checkout_begins S T w a r (Some (Some c)) h = none_begun 1 S.image T.image (stays S.image T.image h.1.1)
checkout_begins S T w a r (Some None) h = checks_out_begins S.image T.image a h.1.0 h.1.2

pub one_uncommitted : (S T : Schedule) (e : Event) (r : Result Answer Refusal) → is_uncommitted e ≡ true → Acts S e r T → OnlyBegins (checkouts (e ∷ [])) S.image T.image
one_uncommitted S T (Checkout w a) r p h = checkout_begins S T w a r (slice_get S.claims w) h
one_uncommitted S T (Local w) r p h = none_begun 0 S.image T.image (one_apart S T (Local w) r refl h)
one_uncommitted S T (Release w) r p h = none_begun 0 S.image T.image (one_apart S T (Release w) r refl h)
one_uncommitted S T (Forget w) r p h = none_begun 0 S.image T.image (one_apart S T (Forget w) r refl h)
one_uncommitted S T e r p h = cc

counted : (e : Event) (es : List Event) → is_uncommitted e ≡ true → checkouts es + checkouts (e ∷ []) ≡ checkouts (e ∷ es)
counted (Checkout w a) es p = omega arith
counted (Local w) es p = omega arith
counted (Release w) es p = omega arith
counted (Forget w) es p = omega arith
counted e es p = cc

uncommitted_runs : (S T : Schedule) (es : List Event) (rs : List (Result Answer Refusal)) → list_all is_uncommitted es ≡ true → Runs S es rs T → OnlyBegins (checkouts es) S.image T.image
uncommitted_runs S T [] [] p h = none_begun 0 S.image T.image (stays S.image T.image (ap (λ (X : Schedule). X.image) h))
uncommitted_runs S T (e ∷ es) (r ∷ rs) p h =
    let both = and_parts (is_uncommitted e) (list_all is_uncommitted es) p in
    subst (λ (n : ℕ). OnlyBegins n S.image T.image) (counted e es both.0)
    (begun_both (checkouts (e ∷ [])) (checkouts es) S.image h.0.image T.image (one_uncommitted S h.0 e r both.0 h.1) (uncommitted_runs h.0 T es rs both.1 h.2))
uncommitted_runs S T [] (r ∷ rs) p h = absurd h
uncommitted_runs S T (e ∷ es) [] p h = absurd h

pub leaves_nothing : LeavesNothing
leaves_nothing = record {
  apart = λ S T es p h. apart_runs S T es h.0 p h.1;
  checkout = λ S T w a r h. checkout_begins S T w a r (slice_get S.claims w) h;
  uncommitted = λ S T es p h. uncommitted_runs S T es h.0 p h.1;
}
