-- A message that begins, and steps that are committed, are appended alone.
use Rattle.std.proofs.Common.{◌≡◌, ◌≢◌, ◌<◌, ℕ, [], ◌∷◌, List, Bool, true, false, Ok, slice_get, refl, sym, ap, subst, ◌∙◌, arith}
use Rattle.std.specs.Prelude.{if◌then◌else◌, ◌==◌}
use Rattle.std.proofs.lemmas.Bool.Decides.{nat_tests}
use Rattle.st_classes.specs.declared.values.ActorId.{ActorId}
use Rattle.st_turn.specs.Claims.{BeganAs, ClaimView}
use Rattle.st_image.specs.declared.history.Item.{Item}
use Rattle.st_image.specs.declared.history.Item.TheVariants.{Begun, Ran}
use Rattle.st_image.specs.ClaimsOut.{one_less, one_more}
use Rattle.st_image.specs.Commits.{ChecksOut, CountsOut, HasCheckedOut, HasCommitted, IsReleased, after_checkout, idle_at, items_of, out_at, steps_of, with_out}
use Rattle.st_image.specs.Images.{ImageView, Standing, appended, world}
use Rattle.st_image.specs.GoingOn.{FitsClaim}
use Rattle.st_image.specs.WorldInvariant.{IsLawful}
use Rattle.st_image.proofs.CallsLater.{checks_out_fits, checks_out_later}
use Rattle.st_image.proofs.Following.{fits_claim_as}
use Rattle.st_journal.specs.declared.entries.Entry.TheVariants as entry
use Rattle.st_journal.specs.Entries.{Does, KeepsBeside, SameOut}
use Rattle.st_journal.proofs.Replayed.{does_beside}

-- an image whose other fields are these
restand : (m k : ImageView) (s : Standing) → k ≡ record m { standing = s } → k ≡ record m { standing = k.standing }
restand m k s is = is ∙ ap (λ (t : Standing). record m { standing = t }) (sym (ap (λ (x : ImageView). x.standing) is))

-- ---- claims that come and go

one_more_then_less : (n : ℕ) → n < 4294967295 → one_less (one_more n) ≡ n
one_more_then_less n few = grind (arith, nat_tests)

came_and_went : (here : Bool) (n m k : ℕ) → m ≡ (if here then one_more n else n) → k ≡ (if here then one_less m else m) → n < 4294967295 → k ≡ n
came_and_went true n m k came went few = went ∙ ap (λ (x : ℕ). one_less x) came ∙ one_more_then_less n few
came_and_went false n m k came went few = went ∙ came

-- a claim was handed out, and came back
same_out : (i j k : ImageView) (a : ActorId) → CountsOut one_more a i j → CountsOut one_less a j k → SameOut i k
same_out i j k a came went b few = came_and_went (b == a.0) (out_at i b) (out_at j b) (out_at k b) (came b) (went b) few

-- a checkout leaves what was counted before the base
pub same_earlier : (i j : ImageView) (a : ActorId) (idle : Bool) → idle_at (slice_get (world i).actors a.0) ≡ idle → j ≡ with_out (after_checkout i a) j → j.standing.earlier ≡ i.standing.earlier
same_earlier i j a idle is checked =
    ap (λ (x : ImageView). x.standing.earlier) checked ∙ by idle is
  where
    by : (b : Bool) → idle_at (slice_get (world i).actors a.0) ≡ b → (after_checkout i a).standing.earlier ≡ i.standing.earlier
    by true e = ap (λ (b : Bool). (if b then appended i (Begun a ∷ []) else i).standing.earlier) e
    by false e = ap (λ (b : Bool). (if b then appended i (Begun a ∷ []) else i).standing.earlier) e

-- a checkout, and the release of its claim
pub begun_beside : (i j k : ImageView) (a : ActorId) (c : ClaimView) (idle : Bool) → idle_at (slice_get (world i).actors a.0) ≡ idle → HasCheckedOut i a c j → IsReleased j c.actor k → KeepsBeside i k
begun_beside i j k a c idle is checked released = record {
  out = same_out i j k a checked.counted (subst (λ (b : ActorId). CountsOut one_less b j k) (ap (λ (x : ClaimView). x.actor) checked.claim) released.counted);
  earlier = ap (λ (x : ImageView). x.standing.earlier) released.image ∙ same_earlier i j a idle is checked.image;
}

-- a checkout, and the commit of its claim
pub ran_beside : (i j k : ImageView) (a : ActorId) (first last : ClaimView) (n : ℕ) (idle : Bool) → idle_at (slice_get (world i).actors a.0) ≡ idle → HasCheckedOut i a first j → last.actor ≡ a → HasCommitted j last n k → KeepsBeside i k
ran_beside i j k a first last n idle is checked of_a done = record {
  out = same_out i j k a checked.counted (subst (λ (b : ActorId). CountsOut one_less b j k) of_a done.counted);
  earlier = done.earlier ∙ same_earlier i j a idle is checked.image;
}

-- ---- a beginning

-- a checkout that begins a message, and the release of its claim
pub begun_alone : (i j k : ImageView) (a : ActorId) → idle_at (slice_get (world i).actors a.0) ≡ true → j ≡ with_out (after_checkout i a) j → k ≡ with_out j k
    → k ≡ record (appended i (Begun a ∷ [])) { standing = k.standing }
begun_alone i j k a idle checked released =
    let s = record j.standing { claims_out = k.standing.claims_out } in
    restand (appended i (Begun a ∷ [])) k s
    (released
    ∙ ap (λ (x : ImageView). record x { standing = s }) checked
    ∙ ap (λ (b : Bool). record (if b then appended i (Begun a ∷ []) else i) { standing = s }) idle)

-- a checkout of an idle actor, and the release of its claim, begin its next message again
pub begins_again : (i j k : ImageView) (a : ActorId) (c : ClaimView) → IsLawful i → IsLawful k → idle_at (slice_get (world i).actors a.0) ≡ true → HasCheckedOut i a c j → IsReleased j c.actor k
    → Does i (entry.Begun a) k
begins_again i j k a c before behind idle checked released =
    does_beside i (Begun a) (entry.Begun a) k refl tt before behind (begun_alone i j k a idle checked.image released.image) (begun_beside i j k a c true idle checked released)

-- ---- steps

not_zero : (n : ℕ) → n ≢ 0 → (n == 0) ≡ false
not_zero n some = grind (arith, nat_tests)

pub items_are : (c : ClaimView) (a : ActorId) (n : ℕ) → c.actor ≡ a → steps_of c ≡ n → n ≢ 0 → items_of c ≡ Ran a n ∷ []
items_are c a n of_a takes some =
    let shut : (steps_of c == 0) ≡ false = not_zero (steps_of c) (λ none. some (sym takes ∙ none)) in
    ap (λ (b : Bool). if b then [] else Ran c.actor (steps_of c) ∷ []) shut
    ∙ ap (λ (x : ActorId). Ran x (steps_of c) ∷ []) of_a
    ∙ ap (λ (k : ℕ). Ran a k ∷ []) takes

-- what became of a claim that was checked out fits the image
pub ran_fits : (i j : ImageView) (a : ActorId) (c d : ClaimView) → IsLawful i → IsLawful j → ChecksOut i a (Ok c) j → BeganAs c d → FitsClaim j d
ran_fits i j a c d before behind checked began = fits_claim_as j c d began (checks_out_fits i j a (Ok c) checked (checks_out_later i j a (Ok c) before behind checked))

-- a checkout of an actor in a turn, and a commit of its claim
pub ran_alone : (i j k : ImageView) (a : ActorId) (c : ClaimView) (n : ℕ) (r : ℕ) → idle_at (slice_get (world i).actors a.0) ≡ false → j ≡ with_out (after_checkout i a) j
    → (c.actor ≡ a) × (steps_of c ≡ n) → n ≢ 0 → HasCommitted j c r k → k ≡ record (appended i (Ran a n ∷ [])) { standing = k.standing }
ran_alone i j k a c n r idle checked of_a some done =
    done.image
    ∙ ap (λ (x : ImageView). record (appended x (items_of c)) { standing = k.standing }) checked
    ∙ ap (λ (b : Bool). record (appended (if b then appended i (Begun a ∷ []) else i) (items_of c)) { standing = k.standing }) idle
    ∙ ap (λ (xs : List Item). record (appended i xs) { standing = k.standing }) (items_are c a n of_a.0 of_a.1 some)
