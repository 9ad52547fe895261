-- Checkpoints: what they leave of claims that are out.
use Rattle.std.proofs.Common.{arith, ◌≡◌, ℕ, ◌+◌, ◌≤◌, [], ◌∷◌, List, Option, Some, None, Bool, true, false, cond, refl, ap, ap₂, sym, ◌∙◌, subst, slice_get, length, append-nil}
use Rattle.std.specs.Prelude.{◌↔◌, ◌==◌, nat_lt}
use Rattle.std.specs.Option.{option_map}
use Rattle.std.proofs.lemmas.Bool.Decides.{nat_tests}
use Rattle.std.proofs.lemmas.Option.{slice_get-map}
use Rattle.st_classes.specs.declared.values.ActorId.{ActorId}
use Rattle.st_classes.specs.declared.refusals.Refusal.TheVariants.{HistoryFull}
use Rattle.st_classes.specs.declared.edits.Edit.{Edit}
use Rattle.st_turn.specs.Claims.{ClaimView}
use Rattle.st_turn.specs.Surviving.{SurvivesAt}
use Rattle.st_image.specs.declared.counts.Counts.{Counts}
use Rattle.st_image.specs.Worlds.{World, WorldActor}
use Rattle.st_image.specs.Parts.{rebase, rebased}
use Rattle.st_image.specs.declared.history.Item.{Item}
use Rattle.st_image.specs.declared.history.Item.TheVariants.{Ran}
use Rattle.st_image.specs.Changes.{change_count, changes_in}
use Rattle.st_image.specs.Counts.{edits_of, most_counted, posts_of, ran_of, weigh}
use Rattle.st_image.specs.Images.{ImageView, counts_of, edits_made, too_many_steps, world, world_of}
use Rattle.st_image.specs.WorldInvariant.{IsLawful}
use Rattle.st_image.specs.Commits.{KnowsBody, IsUnchanged, Survives, body_at, changed_at, commit_room, items_of, steps_of}
use Rattle.st_image.specs.Checkpoints.{BeginsAnew, CommitsAsBefore, LeavesClaims}
use Rattle.st_image.specs.GoingOn.{GoesOnIn}
use Rattle.st_image.proofs.Lists.{off}

-- the world is the base
pub world_is : (i j : ImageView) → BeginsAnew i j → world j ≡ rebase (world i)
unfolding world_of
world_is i j h = ap world h.image

edits_are : (i j : ImageView) → BeginsAnew i j → (world j).edits ≡ (world i).edits
edits_are i j h = ap (λ (w : World). w.edits) (world_is i j h)

same_body : (o : Option WorldActor) → option_map (λ (b : WorldActor). b.body) (option_map rebased o) ≡ option_map (λ (b : WorldActor). b.body) o
same_body None = refl
same_body (Some b) = refl

pub bodies_are : (i j : ImageView) (a : ActorId) → BeginsAnew i j → body_at j a ≡ body_at i a
bodies_are i j a h =
    ap (λ (w : World). option_map (λ (b : WorldActor). b.body) (slice_get w.actors a.0)) (world_is i j h)
    ∙ ap (option_map (λ (b : WorldActor). b.body)) (slice_get-map rebased (world i).actors a.0)
    ∙ same_body (slice_get (world i).actors a.0)

knows : (i j : ImageView) (c : ClaimView) → BeginsAnew i j → KnowsBody i c → KnowsBody j c
knows i j c h k =
    let count = h.changes c.actor.0 in
    record {
      early = omega (arith, count, k.early);
      same = λ e. bodies_are i j c.actor h ∙ k.same (e ∙ count);
    }

survives : (i j : ImageView) (c : ClaimView) → BeginsAnew i j → Survives i c ↔ Survives j c
survives i j c h =
    let P : List Edit → Type 0 = λ es. SurvivesAt es c in
    (subst P (sym (edits_are i j h)), subst P (edits_are i j h))

unchanged : (i j : ImageView) (c : ClaimView) → BeginsAnew i j → IsUnchanged i c ↔ IsUnchanged j c
unchanged i j c h = (λ u. bodies_are i j c.actor h ∙ u, λ u. sym (bodies_are i j c.actor h) ∙ u)

-- ---- room

few_items : (c : ClaimView) → length (items_of c) ≤ 1
few_items c = by (steps_of c == 0)
  where
    by : (t : Bool) → length (cond t [] (Ran c.actor (steps_of c) ∷ [])) ≤ 1
    by true = omega arith
    by false = omega arith

place_for : (most n : ℕ) → n ≤ 1 → 1 ≤ most → nat_lt most (0 + n) ≡ false
place_for most n few some = grind (arith, nat_tests)

-- an empty history has a place for what was allowed
room : (i j : ImageView) (c : ClaimView) → IsLawful i → BeginsAnew i j → commit_room i c ≡ None → commit_room j c ≡ None
room i j c l h r =
    let most : j.most_items ≡ i.most_items = ap (λ (x : ImageView). x.most_items) h.image in
    let empty : length j.history ≡ 0 = ap (λ (x : ImageView). length x.history) h.image in
    let free : nat_lt j.most_items (length j.history + length (items_of c)) ≡ false =
    ap (λ (n : ℕ). nat_lt j.most_items (n + length (items_of c))) empty
    ∙ ap (λ (n : ℕ). nat_lt n (0 + length (items_of c))) most
    ∙ place_for i.most_items (length (items_of c)) (few_items c) l.numbers.some_history in
    let few : nat_lt most_counted ((counts_of i).steps + steps_of c) ≡ false = (off (nat_lt most_counted ((counts_of i).steps + steps_of c)) HistoryFull [] (off (nat_lt i.most_items (length i.history + length (items_of c))) HistoryFull (too_many_steps i (steps_of c) ∷ []) r).1).0 in
    let counted : nat_lt most_counted ((counts_of j).steps + steps_of c) ≡ false = ap (λ (n : Counts). nat_lt most_counted (n.steps + steps_of c)) h.counts ∙ few in
    rw (free, counted) refl

-- ---- commits

version_is : (i j : ImageView) → BeginsAnew i j → length (world j).edits ≡ length (world i).edits
version_is i j h = ap (λ (es : List Edit). length es) (edits_are i j h)

pub commits_as_before : (i j : ImageView) (c : ClaimView) → IsLawful i → BeginsAnew i j → CommitsAsBefore i j c
commits_as_before i j c l h =
    let s = survives i j c h in
    let u = unchanged i j c h in
    record {
      knows = knows i j c h;
      allowed = λ a. record { survives = s.0 a.survives; unchanged = u.0 a.unchanged; room = room i j c l h a.room };
      stale = λ version. (
        λ r. (λ k. r.0 (s.1 k), r.1 ∙ sym (version_is i j h)),
        λ r. (λ k. r.0 (s.0 k), r.1 ∙ version_is i j h),
      );
      changed = (λ r. (s.0 r.0, λ k. r.1 (u.1 k)), λ r. (s.1 r.0, λ k. r.1 (u.0 k)));
    }

pub leaves_claims : LeavesClaims
leaves_claims = record {
  bodies = bodies_are_of;
  claims = commits_as_before;
}
  where
    bodies_are_of : (i j : ImageView) (a : ActorId) → BeginsAnew i j → body_at j a ≡ body_at i a
    bodies_are_of i j a h = bodies_are i j a h

-- ---- an image goes on over a checkpoint

pub anew_later : (i j : ImageView) → BeginsAnew i j → GoesOnIn i j
anew_later i j h = record {
  edits = ([], edits_are i j h ∙ sym (append-nil (world i).edits));
  bodies = λ a. let count = h.changes a.0 in (omega (arith, count), λ b e at. bodies_are i j a h ∙ at);
}

-- ---- an image that begins anew

same_counts : (p q s t : ℕ) → p ≡ q → s ≡ t → (let c : Counts = record { posts = p; steps = s } in c) ≡ record { posts = q; steps = t }
same_counts p q s t e f = ap₂ (λ (x y : ℕ). let c : Counts = record { posts = x; steps = y } in c) e f

pub begun_anew : (i j : ImageView) → j ≡ record i { base = rebase (world i); history = []; standing = record i.standing { tallies = []; earlier = j.standing.earlier } } → ((a : ℕ) → change_count j.standing.earlier.changes a ≡ changed_at i a) → j.standing.earlier.edits ≡ edits_made i
    → j.standing.earlier.posts ≡ (counts_of i).posts → j.standing.earlier.steps ≡ (counts_of i).steps → BeginsAnew i j
begun_anew i j is changes edits posts steps =
    let empty : j.history ≡ [] = ap (λ (x : ImageView). x.history) is in
    let no : (f : Item → ℕ) → weigh f j.history ≡ 0 = λ f. ap (weigh f) empty in
    record {
      image = is;
      changes = λ a. let none : changes_in j.history a ≡ 0 = ap (λ (h : List Item). changes_in h a) empty in omega (arith, changes a, none);
      edits = omega (arith, edits, no edits_of);
      counts = same_counts (j.standing.earlier.posts + weigh posts_of j.history) (counts_of i).posts (j.standing.earlier.steps + weigh ran_of j.history) (counts_of i).steps (omega (arith, posts, no posts_of)) (omega (arith, steps, no ran_of));
    }
