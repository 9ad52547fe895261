-- Places of lists.
use Rattle.std.proofs.Common.{◌≡◌, ◌≢◌, ℕ, zero, suc, ◌<◌, List, Some, refl, ap, ◌∙◌, subst, length, slice_get, slice_set, set, ◌⊎◌, inl, inr}
use Rattle.std.specs.Prelude.{All}
use Rattle.std.proofs.lemmas.Option.{slice_get-get_or, slice_get_within, get_or_from_slice_get}
use Rattle.std.proofs.lemmas.List.{get_or-set_same, get_or-set_other}
use Rattle.std.proofs.Math.ListN.{length-set}

-- two numbers are equal or not
pub same_or_not : (m n : ℕ) → (m ≡ n) ⊎ (m ≢ n)
same_or_not zero zero = inl refl
same_or_not zero (suc n) = inr (λ e. cc)
same_or_not (suc m) zero = inr (λ e. cc)
same_or_not (suc m) (suc n) = elim (same_or_not m n) [ inl e ↦ inl (ap suc e) | inr f ↦ inr (λ e. f (cc)) ]

-- what holds of each holds of one that is there
pub at_all : {X : Type 0} (P : X → Type 0) (xs : List X) (k : ℕ) (x : X) → All P xs → slice_get xs k ≡ Some x → P x
at_all P xs k x h e = subst P (get_or_from_slice_get xs k x x e) (h k x (slice_get_within xs k x e))

pub get_set_same : {X : Type 0} (xs : List X) (k : ℕ) (x v : X) → slice_get xs k ≡ Some x → slice_get (slice_set xs k v) k ≡ Some v
get_set_same {X} xs k x v e =
    let there : k < length xs = slice_get_within xs k x e in
    let inside : k < length (set xs k v) = rw length-set there in
    slice_get-get_or (set xs k v) k x inside ∙ ap Some (get_or-set_same xs k v x there)

pub get_set_other : {X : Type 0} (xs : List X) (j k : ℕ) (y v : X) → j ≢ k → slice_get xs j ≡ Some y → slice_get (slice_set xs k v) j ≡ Some y
get_set_other xs j k y v f e =
    let there : j < length xs = slice_get_within xs j y e in
    let inside : j < length (set xs k v) = rw length-set there in
    slice_get-get_or (set xs k v) j y inside ∙ ap Some (get_or-set_other xs k j v y f ∙ get_or_from_slice_get xs j y y e)
