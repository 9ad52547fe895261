-- All of a list, from all of its front.
use Rattle.std.proofs.Common.{◌≡◌, ◌≤◌, ◌<◌, ℕ, Bool, false, List, ◌++◌, All, sym, ◌∙◌, ap, subst, length, get_or, take, drop, take-append-drop}
use Rattle.std.specs.Prelude.{Decides}
use Rattle.std.proofs.lemmas.List.{take_all}

-- the front up to the end is the list
pub all_passed : {X : Type 0} (P : X → Type 0) (xs : List X) (n : ℕ) → length xs ≤ n → All P (take n xs) → All P xs
all_passed P xs n h a = subst (All P) (take_all n xs h) a

-- where one does not pass not all do
pub one_fails : {X : Type 0} (P : X → Type 0) (xs : List X) (n : ℕ) (x : X) (passes : Bool) → n < length xs → x ≡ get_or xs n x → Decides passes (P x) → passes ≡ false → Decides false (All P xs)
one_fails P xs n x passes h e d fails = (λ t. cc, λ all. sym fails ∙ d.1 (subst P (sym e) (all n x h)))

-- a list that has another's items in front begins with it
pub begins_whole : {X : Type 0} (xs ys : List X) (n : ℕ) → length xs ≤ n → take n xs ≡ take n ys → ys ≡ xs ++ drop n ys
begins_whole {X} xs ys n l e = sym (take-append-drop n ys) ∙ ap (λ (zs : List X). zs ++ drop n ys) (sym e ∙ take_all n xs l)
