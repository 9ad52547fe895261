-- Lists with an item changed.
use Rattle.std.proofs.Common.{arith, ◌≡◌, ◌≢◌, ◌<◌, ℕ, zero, suc, List, [], ◌∷◌, ◌++◌, Option, Some, None, refl, ap, sym, ◌∙◌, subst, length, map, slice_get, slice_set, ◌⊎◌, inl, inr}
use Rattle.std.specs.Prelude.{All}
use Rattle.std.specs.Option.{option_map}
use Rattle.std.proofs.Math.ListN.{length-set}
use Rattle.std.proofs.lemmas.List.{map-set}
use Rattle.std.proofs.lemmas.List.Elements.{All-set}
use Rattle.std.proofs.lemmas.Option.{slice_get-map, slice_get_within}
use Rattle.st_image.specs.Worlds.{changed, change_at}
use Rattle.st_image.proofs.Places.{at_all, get_set_same, get_set_other, same_or_not}

pub change_here : {X : Type 0} (f : X → X) (k : ℕ) (xs : List X) (x : X) → slice_get xs k ≡ Some x → change_at f k xs ≡ slice_set xs k (f x)
change_here f k xs x e = ap (changed f k xs) e

pub change_none : {X : Type 0} (f : X → X) (k : ℕ) (xs : List X) → slice_get xs k ≡ None → change_at f k xs ≡ xs
change_none f k xs e = ap (changed f k xs) e

length_by : {X : Type 0} (f : X → X) (k : ℕ) (xs : List X) (o : Option X) → length (changed f k xs o) ≡ length xs
length_by f k xs None = refl
length_by f k xs (Some x) = length-set xs k (f x)

pub length-change : {X : Type 0} (f : X → X) (k : ℕ) (xs : List X) → length (change_at f k xs) ≡ length xs
length-change f k xs = length_by f k xs (slice_get xs k)

all_by : {X : Type 0} (P : X → Type 0) (f : X → X) (k : ℕ) (xs : List X) (o : Option X) → slice_get xs k ≡ o → ((x : X) → slice_get xs k ≡ Some x → P x → P (f x)) → All P xs → All P (changed f k xs o)
all_by P f k xs None e h all = all
all_by P f k xs (Some x) e h all = All-set P xs k (f x) (h x e (at_all P xs k x all e)) all

-- what holds of each still does where the change keeps it
pub All-change : {X : Type 0} (P : X → Type 0) (f : X → X) (k : ℕ) (xs : List X) → ((x : X) → slice_get xs k ≡ Some x → P x → P (f x)) → All P xs → All P (change_at f k xs)
All-change P f k xs h all = all_by P f k xs (slice_get xs k) refl h all

map_by : {X Y : Type 0} (g : X → Y) (f : X → X) (h : Y → Y) (k : ℕ) (xs : List X) (o : Option X) → slice_get xs k ≡ o → ((x : X) → slice_get xs k ≡ Some x → g (f x) ≡ h (g x)) → map g (changed f k xs o) ≡ changed h k (map g xs) (option_map g o)
map_by g f h k xs None e same = refl
map_by g f h k xs (Some x) e same = map-set g xs k (f x) ∙ ap (slice_set (map g xs) k) (same x e)

-- a change seen through a function
pub map-change : {X Y : Type 0} (g : X → Y) (f : X → X) (h : Y → Y) (k : ℕ) (xs : List X) → ((x : X) → slice_get xs k ≡ Some x → g (f x) ≡ h (g x)) → map g (change_at f k xs) ≡ change_at h k (map g xs)
map-change g f h k xs same = map_by g f h k xs (slice_get xs k) refl same ∙ ap (changed h k (map g xs)) (sym (slice_get-map g xs k))

pub get-change : {X : Type 0} (f : X → X) (k : ℕ) (xs : List X) (x : X) → slice_get xs k ≡ Some x → slice_get (change_at f k xs) k ≡ Some (f x)
get-change f k xs x e = ap (λ ys. slice_get ys k) (change_here f k xs x e) ∙ get_set_same xs k x (f x) e

other_by : {X : Type 0} (f : X → X) (k : ℕ) (xs : List X) (o : Option X) (j : ℕ) (y : X) → j ≢ k → slice_get xs j ≡ Some y → slice_get (changed f k xs o) j ≡ Some y
other_by f k xs None j y n e = e
other_by f k xs (Some x) j y n e = get_set_other xs j k y (f x) n e

pub get-change-other : {X : Type 0} (f : X → X) (k : ℕ) (xs : List X) (j : ℕ) (y : X) → j ≢ k → slice_get xs j ≡ Some y → slice_get (change_at f k xs) j ≡ Some y
get-change-other f k xs j y n e = other_by f k xs (slice_get xs k) j y n e

-- what was there is there still, or was changed
pub get-change-any : {X : Type 0} (f : X → X) (k : ℕ) (xs : List X) (j : ℕ) (y : X) → slice_get xs j ≡ Some y → (slice_get (change_at f k xs) j ≡ Some y) ⊎ ((j ≡ k) × (slice_get (change_at f k xs) j ≡ Some (f y)))
get-change-any f k xs j y e = elim (same_or_not j k) [
  | inl s ↦ inr (s, subst (λ (n : ℕ). slice_get (change_at f n xs) j ≡ Some (f y)) s (get-change f j xs y e))
  | inr n ↦ inl (get-change-other f k xs j y n e)
]

pub within_back : {X : Type 0} (xs : List X) (j n : ℕ) → j < n → n ≡ length xs → (x : X) × (slice_get xs j ≡ Some x)
within_back [] j n h e = absurd (omega (arith, h, e))
within_back (x ∷ xs) zero n h e = (x, refl)
within_back (x ∷ xs) (suc j) zero h e = absurd (omega (arith, h))
within_back (x ∷ xs) (suc j) (suc n) h e = within_back xs j n (omega (arith, h)) (omega (arith, e))

some_same : {X : Type 0} (x y : X) → Some x ≡ Some y → x ≡ y
some_same x y e = cc

-- what is there was there, or is a change of what was
pub get-change-back : {X : Type 0} (f : X → X) (k : ℕ) (xs : List X) (j : ℕ) (y : X) → slice_get (change_at f k xs) j ≡ Some y → (x : X) × (slice_get xs j ≡ Some x) × ((y ≡ x) ⊎ ((j ≡ k) × (y ≡ f x)))
get-change-back f k xs j y e =
    let there = within_back xs j (length (change_at f k xs)) (slice_get_within (change_at f k xs) j y e) (length-change f k xs) in (
      there.0,
      there.1,
      elim (get-change-any f k xs j there.0 there.1) [
        | inl same ↦ inl (some_same y there.0 (sym e ∙ same))
        | inr s ↦ inr (s.0, some_same y (f there.0) (sym e ∙ s.1))
      ],
    )

-- what is there with one item more was there, or is the item
pub get-push-back : {X : Type 0} (xs : List X) (x : X) (j : ℕ) (y : X) → slice_get (xs ++ x ∷ []) j ≡ Some y → (slice_get xs j ≡ Some y) ⊎ ((j ≡ length xs) × (y ≡ x))
get-push-back [] x zero y e = inr (refl, some_same y x (sym e))
get-push-back [] x (suc j) y e = cc
get-push-back (z ∷ xs) x zero y e = inl e
get-push-back (z ∷ xs) x (suc j) y e = elim (get-push-back xs x j y e) [ inl h ↦ inl h | inr h ↦ inr (ap suc h.0, h.1) ]
