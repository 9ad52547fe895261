-- Lists by their places.
use Rattle.std.proofs.Common.{arith, refl, ◌≡◌, ℕ, ◌<◌, ◌≤◌, ◌⊎◌, List, [], ◌∷◌, ◌++◌, Option, Some, None, slice_get, zero, suc, ap, sym, ◌∙◌, length, take, inl, inr, Bool, true, false, if◌then◌else◌, subst}
use Rattle.std.specs.List.{list_all}
use Rattle.std.proofs.lemmas.Bool.{and_parts, and_from}
use Rattle.st_classes.specs.declared.refusals.Refusal.{Refusal}
use Rattle.st_classes.specs.Refusals.{Rule, first_of}

pub slice_get_old : {X : Type 0} (xs ys : List X) (i : ℕ) → i < length xs → slice_get (xs ++ ys) i ≡ slice_get xs i
slice_get_old [] ys i h = absurd (omega (arith, h))
slice_get_old (x ∷ xs) ys zero h = refl
slice_get_old (x ∷ xs) ys (suc i) h = slice_get_old xs ys i (omega (arith, h))

pub slice_get_here : {X : Type 0} (xs : List X) (y : X) (ys : List X) → slice_get (xs ++ y ∷ ys) (length xs) ≡ Some y
slice_get_here [] y ys = refl
slice_get_here (x ∷ xs) y ys = slice_get_here xs y ys

pub slice_get_last : {X : Type 0} (xs : List X) (y : X) → slice_get (xs ++ y ∷ []) (length xs) ≡ Some y
slice_get_last xs y = slice_get_here xs y []

-- an item of a list with one more is an old one, or the new one
pub slice_get_push : {X : Type 0} (xs : List X) (y x : X) (i : ℕ) → slice_get (xs ++ y ∷ []) i ≡ Some x → ((i < length xs) × (slice_get xs i ≡ Some x)) ⊎ ((i ≡ length xs) × (y ≡ x))
slice_get_push [] y x zero h = inr (refl, cc)
slice_get_push [] y x (suc i) h = cc
slice_get_push (z ∷ xs) y x zero h = inl (omega arith, h)
slice_get_push (z ∷ xs) y x (suc i) h = elim (slice_get_push xs y x i h) [ inl w ↦ inl (omega (arith, w.0), w.1) | inr w ↦ inr (omega (arith, w.0), w.1) ]

-- what is at a place of a list is there in a longer one
pub slice_get_kept : {X : Type 0} (xs ys : List X) (i : ℕ) (x : X) → slice_get xs i ≡ Some x → slice_get (xs ++ ys) i ≡ Some x
slice_get_kept [] ys i x h = cc
slice_get_kept (z ∷ xs) ys zero x h = h
slice_get_kept (z ∷ xs) ys (suc i) x h = slice_get_kept xs ys i x h

pub slice_get_take : {X : Type 0} (xs : List X) (n i : ℕ) → i < n → slice_get (take n xs) i ≡ slice_get xs i
slice_get_take xs zero i h = absurd (omega (arith, h))
slice_get_take [] (suc n) i h = refl
slice_get_take (x ∷ xs) (suc n) zero h = refl
slice_get_take (x ∷ xs) (suc n) (suc i) h = slice_get_take xs n i (omega (arith, h))

pub take_at_place : {X : Type 0} (xs : List X) (n : ℕ) (x : X) → slice_get xs n ≡ Some x → take (suc n) xs ≡ take n xs ++ x ∷ []
take_at_place [] n x h = cc
take_at_place (y ∷ xs) zero x h = let e : y ≡ x = cc in ap (λ z. z ∷ []) e
take_at_place (y ∷ xs) (suc n) x h = ap (λ zs. y ∷ zs) (take_at_place xs n x h)

pub take_old : {X : Type 0} (xs ys : List X) (n : ℕ) → n ≤ length xs → take n (xs ++ ys) ≡ take n xs
take_old xs ys zero h = refl
take_old [] ys (suc n) h = absurd (omega (arith, h))
take_old (x ∷ xs) ys (suc n) h = ap (λ zs. x ∷ zs) (take_old xs ys n (omega (arith, h)))

pub take_whole : {X : Type 0} (xs ys : List X) → take (length xs) (xs ++ ys) ≡ xs
take_whole [] ys = refl
take_whole (x ∷ xs) ys = ap (λ zs. x ∷ zs) (take_whole xs ys)

-- a test that all items pass
pub list_all_get : {X : Type 0} (test : X → Bool) (xs : List X) (k : ℕ) (x : X) → list_all test xs ≡ true → slice_get xs k ≡ Some x → test x ≡ true
list_all_get test [] k x h at = cc
list_all_get test (y ∷ xs) zero x h at = let s : y ≡ x = cc in subst (λ z. test z ≡ true) s (and_parts (test y) (list_all test xs) h).0
list_all_get test (y ∷ xs) (suc k) x h at = list_all_get test xs k x (and_parts (test y) (list_all test xs) h).1 at

-- a weaker test
pub list_all_weaker : {X : Type 0} (f g : X → Bool) → ((x : X) → f x ≡ true → g x ≡ true) → (xs : List X) → list_all f xs ≡ true → list_all g xs ≡ true
list_all_weaker f g h [] e = refl
list_all_weaker f g h (x ∷ xs) e = let p = and_parts (f x) (list_all f xs) e in and_from (g x) (list_all g xs) (h x p.0) (list_all_weaker f g h xs p.1)

-- ---- rules

first_rule : (b : Bool) (r : Refusal) (o : Option Refusal) → (if b then Some r else o) ≡ None → (b ≡ false) × (o ≡ None)
first_rule true r o h = cc
first_rule false r o h = (refl, h)

-- where no rule of a list applies, none at a place does
pub no_rule : (rules : List Rule) (k : ℕ) (rule : Rule) → first_of rules ≡ None → slice_get rules k ≡ Some rule → rule.0 ≡ false
no_rule [] k rule h e = cc
no_rule (r ∷ rules) zero rule h e = let s : r ≡ rule = cc in ap (λ (x : Rule). x.0) (sym s) ∙ (first_rule r.0 r.1 (first_of rules) h).0
no_rule (r ∷ rules) (suc k) rule h e = no_rule rules k rule (first_rule r.0 r.1 (first_of rules) h).1 e
