-- What holds of a value, if there is one.
use Rattle.std.proofs.Common.{◌≡◌, ℕ, zero, suc, List, [], ◌∷◌, Option, Some, None, slice_get, refl, subst}
use Rattle.std.specs.Option.{option_and_then, option_map, option_or}
use Rattle.std.proofs.lemmas.Option.{same_Some, none-some}

abbrev pub IfThere : {A : Type 0} → (A → Type 0) → Option A → Type 0
IfThere {A} P o = (x : A) → o ≡ Some x → P x

pub there : {A : Type 0} (P : A → Type 0) (x : A) → P x → IfThere P (Some x)
there P x h y e = subst P (same_Some x y e) h

pub not_there : {A : Type 0} (P : A → Type 0) → IfThere P None
not_there P x e = absurd (none-some x e)

pub or_there : {A : Type 0} (P : A → Type 0) (o p : Option A) → IfThere P o → IfThere P p → IfThere P (option_or o p)
or_there P (Some x) p h k = h
or_there P None p h k = k

pub map_there : {A B : Type 0} (P : B → Type 0) (g : A → B) (o : Option A) → IfThere (λ x. P (g x)) o → IfThere P (option_map g o)
map_there P g (Some x) h = there P (g x) (h x refl)
map_there P g None h = not_there P

pub then_there : {A B : Type 0} (P : B → Type 0) (g : A → Option B) (o : Option A) → ((x : A) → IfThere P (g x)) → IfThere P (option_and_then g o)
then_there P g (Some x) h = h x
then_there P g None h = not_there P

-- P holds of each
abbrev pub OfEach : {A : Type 0} → (A → Type 0) → List A → Type 0
OfEach {A} P [] = Unit {0}
OfEach {A} P (x ∷ xs) = P x × OfEach P xs

pub got_there : {A : Type 0} (P : A → Type 0) (xs : List A) → OfEach P xs → (n : ℕ) → IfThere P (slice_get xs n)
got_there P [] h n = not_there P
got_there P (x ∷ xs) h zero = there P x h.0
got_there P (x ∷ xs) h (suc n) = got_there P xs h.1 n
