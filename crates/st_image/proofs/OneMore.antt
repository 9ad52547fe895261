-- Lists that are told item by item.
use Rattle.std.proofs.Common.{◌≡◌, ℕ, zero, suc, ◌≤◌, ◌+◌, List, [], ◌∷◌, ◌++◌, length, map, drop, Option, Some, None, option_map, slice_get, refl, sym, ap, ◌∙◌, add-one, append_assoc, subst}
use Rattle.std.proofs.lemmas.List.{append-nil, drop_all}

pub rest_at : {X : Type 0} (xs : List X) (n : ℕ) (x : X) → slice_get xs n ≡ Some x → drop n xs ≡ x ∷ drop (suc n) xs
rest_at [] n x h = cc
rest_at (y ∷ xs) zero x h = let e : y ≡ x = cc in ap (λ z. z ∷ xs) e
rest_at (y ∷ xs) (suc n) x h = rest_at xs n x h

-- ---- items as they are

pub copied_more : {X : Type 0} (told all xs : List X) (n : ℕ) (x : X) → slice_get xs n ≡ Some x → told ++ drop n xs ≡ all → (told ++ x ∷ []) ++ drop (n + 1) xs ≡ all
copied_more told all xs n x at h = rw (add-one, append_assoc) (ap (λ ys. told ++ ys) (sym (rest_at xs n x at)) ∙ h)

pub all_copied : {X : Type 0} (told all xs : List X) (n : ℕ) → length xs ≤ n → told ++ drop n xs ≡ all → told ≡ all
all_copied told all xs n h e = sym (append-nil told) ∙ (ap (λ ys. told ++ ys) (sym (drop_all n xs h)) ∙ e)

-- ---- what each item gives

pub told_more : {X Y : Type 0} (f : X → Y) (told all : List Y) (xs : List X) (n : ℕ) (x : X) → slice_get xs n ≡ Some x → told ++ map f (drop n xs) ≡ all → (told ++ f x ∷ []) ++ map f (drop (n + 1) xs) ≡ all
told_more f told all xs n x at h = rw (add-one, append_assoc) (ap (λ ys. told ++ map f ys) (sym (rest_at xs n x at)) ∙ h)

mapped_some : {X Y : Type 0} (f : X → Y) (o : Option X) (y : Y) → option_map f o ≡ Some y → (x : X) × (o ≡ Some x) × (f x ≡ y)
mapped_some f None y e = cc
mapped_some f (Some x) y e = (x, refl, cc)

-- by what the item at the place gives, where there is one
pub given_more : {X Y : Type 0} (f : X → Y) (told all : List Y) (xs : List X) (n : ℕ) (y : Y) → option_map f (slice_get xs n) ≡ Some y → told ++ map f (drop n xs) ≡ all → (told ++ y ∷ []) ++ map f (drop (n + 1) xs) ≡ all
given_more {X} {Y} f told all xs n y at h =
    let p = mapped_some f (slice_get xs n) y at in
    subst (λ (z : Y). (told ++ z ∷ []) ++ map f (drop (n + 1) xs) ≡ all) p.2 (told_more f told all xs n p.0 p.1 h)

pub all_told : {X Y : Type 0} (f : X → Y) (told all : List Y) (xs : List X) (n : ℕ) → length xs ≤ n → told ++ map f (drop n xs) ≡ all → told ≡ all
all_told f told all xs n h e = sym (append-nil told) ∙ (ap (λ ys. told ++ map f ys) (sym (drop_all n xs h)) ∙ e)
