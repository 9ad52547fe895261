-- Loops that go over a list by its places.
use Rattle.std.proofs.Common.{◌≡◌, ◌∙◌, ◌≤◌, ℕ, zero, suc, ◌+◌, ◌-◌, List, [], ◌∷◌, ◌++◌, Bool, true, false, cond, drop, length, Option, Some, None, option_and_then, ap, append-nil, append_assoc, arith, refl, slice_get, subst, sym}
use Rattle.std.proofs.Math.ListN.{drop_of_length-le}
use Rattle.std.proofs.lemmas.List.{length-drop}
use Rattle.std.specs.List.{cons_option, filter_map, find}

-- the item at a place, if it has something to give, comes before what the later ones give
pub given_next : {X Y : Type 0} (h : X → Option Y) (xs : List X) (place : ℕ) → filter_map h (drop place xs) ≡ cons_option (option_and_then h (slice_get xs place)) (filter_map h (drop (place + 1) xs))
given_next h [] zero = refl
given_next h [] (suc place) =
    let next : suc place + 1 ≡ suc (place + 1) = omega arith in
    subst (λ n. [] ≡ filter_map h (drop n [])) (sym next) refl
given_next h (x ∷ xs) zero = refl
given_next h (x ∷ xs) (suc place) =
    let next : suc place + 1 ≡ suc (place + 1) = omega arith in
    subst (λ n. filter_map h (drop place xs) ≡ cons_option (option_and_then h (slice_get xs place)) (filter_map h (drop n (x ∷ xs)))) (sym next) (given_next h xs place)

-- what is looked for is the item at a place, if that is it, or else what comes later
abbrev pub or_later : {X : Type 0} → (X → Bool) → Option X → Option X → Option X
or_later p None later = later
or_later p (Some x) later = cond (p x) (Some x) later

pub found_next : {X : Type 0} (p : X → Bool) (xs : List X) (place : ℕ) → find p (drop place xs) ≡ or_later p (slice_get xs place) (find p (drop (place + 1) xs))
found_next p [] zero = refl
found_next p [] (suc place) =
    let next : suc place + 1 ≡ suc (place + 1) = omega arith in
    subst (λ n. None ≡ find p (drop n [])) (sym next) refl
found_next p (x ∷ xs) zero = refl
found_next p (x ∷ xs) (suc place) =
    let next : suc place + 1 ≡ suc (place + 1) = omega arith in
    subst (λ n. find p (drop place xs) ≡ or_later p (slice_get xs place) (find p (drop n (x ∷ xs)))) (sym next) (found_next p xs place)

-- ---- a loop that gathers what the items give

-- the item at a place gives something
pub given_more : {X Y : Type 0} (h : X → Option Y) (xs : List X) (place : ℕ) (y : Y) (so_far all : List Y) → option_and_then h (slice_get xs place) ≡ Some y → so_far ++ filter_map h (drop place xs) ≡ all → (so_far ++ y ∷ []) ++ filter_map h (drop (place + 1) xs) ≡ all
given_more h xs place y so_far all here before =
    let later = filter_map h (drop (place + 1) xs) in
    append_assoc so_far (y ∷ []) later ∙ ap (λ ys. so_far ++ ys) (sym (given_next h xs place ∙ ap (λ o. cons_option o later) here)) ∙ before

-- it gives nothing, or there is none
pub given_none : {X Y : Type 0} (h : X → Option Y) (xs : List X) (place : ℕ) (so_far all : List Y) → option_and_then h (slice_get xs place) ≡ None → so_far ++ filter_map h (drop place xs) ≡ all → so_far ++ filter_map h (drop (place + 1) xs) ≡ all
given_none h xs place so_far all here before =
    let later = filter_map h (drop (place + 1) xs) in
    ap (λ ys. so_far ++ ys) (sym (given_next h xs place ∙ ap (λ o. cons_option o later) here)) ∙ before

-- no item is left
pub given_all : {X Y : Type 0} (h : X → Option Y) (xs : List X) (place : ℕ) (so_far all : List Y) → length xs ≤ place → so_far ++ filter_map h (drop place xs) ≡ all → so_far ≡ all
given_all h xs place so_far all past before =
    sym (append-nil so_far) ∙ ap (λ ys. so_far ++ filter_map h ys) (sym (drop_of_length-le xs past)) ∙ before

-- ---- a loop that looks for an item

-- there is none at a place
pub found_past : {X : Type 0} (p : X → Bool) (xs : List X) (place : ℕ) (found : Option X) → slice_get xs place ≡ None → find p (drop place xs) ≡ found → find p (drop (place + 1) xs) ≡ found
found_past p xs place found here before =
    let later = find p (drop (place + 1) xs) in
    sym (found_next p xs place ∙ ap (λ o. or_later p o later) here) ∙ before

-- the one there is not it
pub found_not : {X : Type 0} (p : X → Bool) (xs : List X) (place : ℕ) (x : X) (found : Option X) → slice_get xs place ≡ Some x → p x ≡ false → find p (drop place xs) ≡ found → find p (drop (place + 1) xs) ≡ found
found_not p xs place x found here unlike before =
    let later = find p (drop (place + 1) xs) in
    sym (found_next p xs place ∙ ap (λ o. or_later p o later) here ∙ ap (λ b. cond b (Some x) later) unlike) ∙ before

-- the one there is it
pub found_here : {X : Type 0} (p : X → Bool) (xs : List X) (place : ℕ) (x : X) (found : Option X) → slice_get xs place ≡ Some x → p x ≡ true → find p (drop place xs) ≡ found → Some x ≡ found
found_here p xs place x found here alike before =
    let later = find p (drop (place + 1) xs) in
    sym (found_next p xs place ∙ ap (λ o. or_later p o later) here ∙ ap (λ b. cond b (Some x) later) alike) ∙ before

-- no item is left
pub found_nowhere : {X : Type 0} (p : X → Bool) (xs : List X) (place : ℕ) (found : Option X) → length xs ≤ place → find p (drop place xs) ≡ found → None ≡ found
found_nowhere p xs place found past before = ap (find p) (sym (drop_of_length-le xs past)) ∙ before

-- ---- what is kept

-- at most 64 are
pub few_newest : {X : Type 0} (xs : List X) → length (drop (length xs - 64) xs) ≤ 64
few_newest xs = let left = length-drop (length xs - 64) xs in omega (arith, left)
