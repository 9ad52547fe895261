-- Lists, and lists of rules.
use Rattle.std.proofs.Common.{◌≡◌, ℕ, zero, suc, ◌+◌, ◌++◌, [], ◌∷◌, List, drop, Some, None, Bool, true, false, refl, ap, sym, ◌∙◌, slice_get, slice_set, ◌⊎◌, inl, inr, Result, Ok, Err, IfOk, OnOk, OnErr, add-one}
use Rattle.st_classes.specs.declared.refusals.Refusal.{Refusal}
use Rattle.st_classes.specs.Refusals.{Rule, first_of}

-- a rule that no refusal comes from is off, and so are those after it
pub off : (b : Bool) (e : Refusal) (rules : List Rule) → first_of ((b, e) ∷ rules) ≡ None → (b ≡ false) × (first_of rules ≡ None)
off true e rules h = cc
off false e rules h = (refl, h)

pub off_append : (rules more : List Rule) → first_of (rules ++ more) ≡ None → (first_of rules ≡ None) × (first_of more ≡ None)
off_append [] more h = (refl, h)
off_append ((true, e) ∷ rules) more h = cc
off_append ((false, e) ∷ rules) more h = off_append rules more h

-- the first of some rules and more
pub first_here : (rules more : List Rule) (e : Refusal) → first_of rules ≡ Some e → first_of (rules ++ more) ≡ Some e
first_here [] more e h = cc
first_here ((true, f) ∷ rules) more e h = h
first_here ((false, f) ∷ rules) more e h = first_here rules more e h

pub first_later : (rules more : List Rule) → first_of rules ≡ None → first_of (rules ++ more) ≡ first_of more
first_later [] more h = refl
first_later ((true, e) ∷ rules) more h = cc
first_later ((false, e) ∷ rules) more h = first_later rules more h

pub set_at_same : {X : Type 0} (xs : List X) (k : ℕ) (x : X) → slice_get xs k ≡ Some x → slice_set xs k x ≡ xs
set_at_same [] k x e = cc
set_at_same (y ∷ xs) zero x e = let s : y ≡ x = cc in ap (λ z. z ∷ xs) (sym s)
set_at_same (y ∷ xs) (suc k) x e = ap (λ zs. y ∷ zs) (set_at_same xs k x e)

pub set_twice : {X : Type 0} (xs : List X) (k : ℕ) (x y : X) → slice_set (slice_set xs k x) k y ≡ slice_set xs k y
set_twice [] k x y = refl
set_twice (z ∷ xs) zero x y = refl
set_twice (z ∷ xs) (suc k) x y = ap (λ zs. z ∷ zs) (set_twice xs k x y)

drop_suc : {X : Type 0} (n : ℕ) (xs : List X) → drop (suc n) xs ≡ drop 1 (drop n xs)
drop_suc zero [] = refl
drop_suc zero (x ∷ xs) = refl
drop_suc (suc n) [] = refl
drop_suc (suc n) (x ∷ xs) = drop_suc n xs

pub drop_first : {X : Type 0} (n : ℕ) (xs : List X) (y : X) (ys : List X) → drop n xs ≡ y ∷ ys → drop (n + 1) xs ≡ ys
drop_first n xs y ys e = ap (λ (k : ℕ). drop k xs) (add-one n) ∙ drop_suc n xs ∙ ap (drop 1) e

-- a result of which each case tells something
pub each_way : {T E A B : Type 0} (r : Result T E) → OnOk r A → OnErr r B → A ⊎ B
each_way (Ok x) a b = inl a
each_way (Err e) a b = inr b

-- an Ok that is known, by what it tells
pub ok_by : {T E : Type 0} (r : Result T E) (P Q : T → Type 0) → ((x : T) → P x → Q x) → IfOk r P → IfOk r Q
ok_by (Ok x) P Q f p = f x p
ok_by (Err e) P Q f p = tt
