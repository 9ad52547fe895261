-- Items with their places.
use Rattle.std.proofs.Common.{◌≡◌, ◌≤◌, ℕ, zero, suc, ◌+◌, List, [], ◌∷◌, ◌++◌, ◌∙◌, ap, append-nil, Some, None, arith, drop, length, map, refl, slice_get, subst, sym}
use Rattle.std.proofs.Math.ListN.{drop_of_length-le}
use Rattle.std.proofs.lemmas.List.{map_push}
use Rattle.std.proofs.lemmas.List.FromFn.{length-enumerate_from}
use Rattle.std.specs.List.{enumerate_from}
use Rattle.serde_json.specs.Data.{Data, item}
use Rattle.serde_json.specs.View.{items_of, items_view, view}
use Rattle.serde_json.specs.declared.value.Value.{Value}
use Rattle.st_queries.proofs.Rows.{next_told}

-- an item at its place has that place with it
pub placed_at : {X : Type 0} (xs : List X) (first place : ℕ) (x : X) → slice_get xs place ≡ Some x → slice_get (enumerate_from first xs) place ≡ Some (first + place, x)
placed_at [] first place x h = absurd (let e : None ≡ Some x = h in cc)
placed_at (y ∷ ys) first zero x h =
    let e : Some y ≡ Some x = h in
    let same : y ≡ x = cc in
    let here : first ≡ first + 0 = omega arith in
    rw (same, ← here) refl
placed_at (y ∷ ys) first (suc place) x h =
    let further : first + 1 + place ≡ first + suc place = omega arith in
    subst (λ n. slice_get (enumerate_from (first + 1) ys) place ≡ Some (n, x)) further (placed_at ys (first + 1) place x h)

-- one item more has the place behind the others
pub placed_more : {X : Type 0} (xs : List X) (first : ℕ) (x : X) → enumerate_from first (xs ++ x ∷ []) ≡ enumerate_from first xs ++ (first + length xs, x) ∷ []
placed_more [] first x = let here : first ≡ first + 0 = omega arith in ap (λ n. (n, x) ∷ []) here
placed_more (y ∷ ys) first x =
    let further : first + 1 + length ys ≡ first + length (y ∷ ys) = omega arith in
    subst (λ n. (first, y) ∷ enumerate_from (first + 1) (ys ++ x ∷ []) ≡ (first, y) ∷ (enumerate_from (first + 1) ys ++ (n, x) ∷ [])) further (ap (λ ps. (first, y) ∷ ps) (placed_more ys (first + 1) x))

-- items are told with their places, one after the other
pub next_placed : {X : Type 0} (f : ℕ × X → Data) (xs : List X) (place : ℕ) (x : X) (items : List Value) (v : Value) (all : List Data) → slice_get xs place ≡ Some x → view v ≡ f (place, x) → map view items ++ map f (drop place (enumerate_from 0 xs)) ≡ all → map view (items ++ v ∷ []) ++ map f (drop (place + 1) (enumerate_from 0 xs)) ≡ all
next_placed f xs place x items v all here told so_far =
    let zero_first : 0 + place ≡ place = omega arith in
    let at : slice_get (enumerate_from 0 xs) place ≡ Some (place, x) = subst (λ n. slice_get (enumerate_from 0 xs) place ≡ Some (n, x)) zero_first (placed_at xs 0 place x here) in
    next_told f (enumerate_from 0 xs) place (place, x) items v all at told so_far

-- the last one is told behind the others
pub last_placed : {X : Type 0} (f : ℕ × X → Data) (xs : List X) (place : ℕ) (x : X) (items : List Value) (v : Value) → length xs ≤ place → place ≤ length xs → view v ≡ f (place, x) → map view items ++ map f (drop place (enumerate_from 0 xs)) ≡ map f (enumerate_from 0 xs) → map view (items ++ v ∷ []) ≡ map f (enumerate_from 0 (xs ++ x ∷ []))
last_placed f xs place x items v past within told so_far =
    let same : place ≡ 0 + length xs = omega (arith, past, within) in
    let long : length (enumerate_from 0 xs) ≤ place = omega (arith, length-enumerate_from 0 xs, past) in
    let all : map view items ≡ map f (enumerate_from 0 xs) = sym (append-nil (map view items)) ∙ ap (λ ps. map view items ++ map f ps) (sym (drop_of_length-le (enumerate_from 0 xs) long)) ∙ so_far in
    map_push view items v
    ∙ ap (λ d. map view items ++ d ∷ []) told
    ∙ ap (λ ds. ds ++ f (place, x) ∷ []) all
    ∙ ap (λ n. map f (enumerate_from 0 xs) ++ f (n, x) ∷ []) same
    ∙ sym (map_push f (enumerate_from 0 xs) (0 + length xs, x))
    ∙ ap (map f) (sym (placed_more xs 0 x))

-- values as the items of an array
pub items_seen : (vs : List Value) → items_view vs ≡ items_of (map view vs)
items_seen [] = refl
items_seen (v ∷ vs) = ap (λ is. item (view v) is) (items_seen vs)
