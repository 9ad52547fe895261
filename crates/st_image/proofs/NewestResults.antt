-- The newest results: one more, and the outcome of a turn among them.
use Rattle.std.proofs.Common.{arith, ◌≡◌, ◌+◌, ◌-◌, ◌≤◌, ◌++◌, ℕ, zero, suc, Err, [], ◌∷◌, List, refl, ap, sym, ◌∙◌, length, drop, slice_get, Bool, true, false, cond, inl, inr, ◌⊎◌}
use Rattle.std.specs.Prelude.{nat_lt}
use Rattle.std.proofs.lemmas.Bool.Decides.{nat_tests}
use Rattle.std.proofs.lemmas.List.{drop-append-le, drop-drop, length-append, length-drop}
use Rattle.st_turn.specs.declared.body.Outcome.{Outcome}
use Rattle.st_turn.specs.declared.body.Phase.{Phase}
use Rattle.st_turn.specs.declared.body.Phase.TheVariants.{Fresh, Start, Frames, Done}
use Rattle.st_classes.specs.declared.refusals.Refusal.TheVariants.{Expired}
use Rattle.st_image.specs.NewestResults.{Kept, kept_of, kept_outcome, kept_with, newest, or_pending}
use Rattle.st_image.specs.Outcomes.{outcome_in}
use Rattle.st_turn.specs.declared.body.Body.{Body}
use Rattle.st_image.specs.Worlds.{WorldActor}
use Rattle.st_image.specs.ActorViews.{ActorView, actor_view, view_after_steps}
use Rattle.st_image.specs.Replay.{with_body, with_result}

-- the newest of a list from a place on, where 64 are left
newest_drop : {X : Type 0} (xs : List X) (k : ℕ) → k + 64 ≤ length xs → newest (drop k xs) ≡ newest xs
newest_drop xs k h =
    let len = length-drop k xs in
    let same : k + (length (drop k xs) - 64) ≡ length xs - 64 = omega (arith, len, h) in
    drop-drop (length (drop k xs) - 64) k xs ∙ ap (λ (n : ℕ). drop n xs) same

drop_none : {X : Type 0} (xs : List X) → drop 0 xs ≡ xs
drop_none xs = refl

newest_all : {X : Type 0} (xs : List X) → length xs ≤ 64 → newest xs ≡ xs
newest_all xs h = let none : length xs - 64 ≡ 0 = omega (arith, h) in ap (λ (n : ℕ). drop n xs) none

-- one more
pub newest_push : {X : Type 0} (xs : List X) (x : X) → newest (newest xs ++ x ∷ []) ≡ newest (xs ++ x ∷ [])
newest_push xs x = elim (few_or_not (length xs)) [
  | inl few ↦ ap (λ (ys : List _). newest (ys ++ x ∷ [])) (newest_all xs few)
  | inr many ↦
      let k : ℕ = length xs - 64 in
      let joined = drop-append-le k xs (x ∷ []) (omega (arith, many)) in
      ap newest (sym joined) ∙ newest_drop (xs ++ x ∷ []) k (omega (arith, many, length-append xs (x ∷ [])))
]
  where
    few_or_not : (n : ℕ) → (n ≤ 64) ⊎ (64 ≤ n)
    few_or_not n = elim (by (nat_lt n 64) refl) [ inl h ↦ inl h | inr h ↦ inr h ]
      where
        by : (b : Bool) → nat_lt n 64 ≡ b → (n ≤ 64) ⊎ (64 ≤ n)
        by true e = inl (grind (arith, nat_tests))
        by false e = inr (grind (arith, nat_tests))

-- what is kept after a step
pub kept_steps : (phase : Phase) (results : List Outcome) → kept_of (with_result phase results) ≡ kept_with phase (kept_of results)
kept_steps Fresh results = refl
kept_steps (Start s args) results = refl
kept_steps (Frames fs) results = refl
kept_steps (Done outcome) results =
    ap (λ (xs : List Outcome). let k : Kept = record { items = xs; count = length (results ++ outcome ∷ []) } in k) (sym (newest_push results outcome))
    ∙ ap (λ (n : ℕ). let k : Kept = record { items = newest (newest results ++ outcome ∷ []); count = n } in k) (length-append results (outcome ∷ []))

get_drop : {X : Type 0} (k : ℕ) (xs : List X) (n : ℕ) → k ≤ n → slice_get (drop k xs) (n - k) ≡ slice_get xs n
get_drop zero xs n h = let same : n - 0 ≡ n = omega arith in ap (slice_get xs) same
get_drop (suc k) [] n h = refl
get_drop (suc k) (x ∷ xs) zero h = absurd (omega (arith, h))
get_drop (suc k) (x ∷ xs) (suc n) h = let same : suc n - suc k ≡ n - k = omega arith in ap (slice_get (drop k xs)) same ∙ get_drop k xs n (omega (arith, h))

by_test : (b : Bool) (results : List Outcome) (n : ℕ) → nat_lt (n + 64) (length results) ≡ b
    → cond b (Err Expired) (or_pending (slice_get (newest results) (n - (length results - 64)))) ≡ cond b (Err Expired) (or_pending (slice_get results n))
by_test true results n e = refl
by_test false results n e = ap or_pending (get_drop (length results - 64) results n (grind (arith, nat_tests)))

either : {X : Type 0} (b : Bool) (x y z : X) → y ≡ z → cond b x y ≡ cond b x z
either true x y z e = refl
either false x y z e = e

-- the outcome of a turn in what is kept is that among all results
pub kept_outcomes : (first : ℕ) (results : List Outcome) (turn : ℕ) → kept_outcome first (kept_of results) turn ≡ outcome_in first results turn
kept_outcomes first results turn = either (nat_lt turn first) _ _ _ (by_test (nat_lt (turn - first + 64) (length results)) results (turn - first) refl)

-- what is kept of an actor after steps of its own
pub view_steps : (body : Body) (b : WorldActor) → actor_view (with_body body b) ≡ view_after_steps body (actor_view b)
view_steps body b = ap (λ (k : Kept). let v : ActorView = record (actor_view b) { body = body; results = k } in v) (kept_steps body.phase b.results)
