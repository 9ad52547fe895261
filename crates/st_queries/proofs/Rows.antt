-- Lists that are told row by row.
use Rattle.std.proofs.Common.{◌≡◌, ℕ, zero, suc, ◌+◌, List, [], ◌∷◌, ◌++◌, map, drop, Option, Some, None, ap, ◌∙◌, append-nil, append_assoc, arith, slice_get, subst, sym}
use Rattle.std.specs.List.{cons_option, filter_map, range_with_len}
use Rattle.std.proofs.lemmas.List.{map_push}
use Rattle.std.proofs.lemmas.List.Elements.{filter_map-append}
use Rattle.st_queries.proofs.Numbers.{counting_more}
use Rattle.serde_json.specs.Data.{Data}
use Rattle.serde_json.specs.View.{view}
use Rattle.serde_json.specs.declared.value.Value.{Value}

-- the rows of one number more
pub more : {T : Type 0} (row : ℕ → Option T) (from n j : ℕ) → from + n ≡ j → filter_map row (range_with_len from (n + 1)) ≡ filter_map row (range_with_len from n) ++ cons_option (row j) []
more row from n j e = ap (filter_map row) (counting_more from n j e) ∙ filter_map-append row (range_with_len from n) (j ∷ [])

-- the next number has a row
pub one_row : (row : ℕ → Option Data) (from n j : ℕ) (items : List Value) (v : Value) → from + n ≡ j → row j ≡ Some (view v) → map view items ≡ filter_map row (range_with_len from n) → map view (items ++ v ∷ []) ≡ filter_map row (range_with_len from (n + 1))
one_row row from n j items v e here so_far = map_push view items v ∙ ap (λ ds. ds ++ view v ∷ []) so_far ∙ sym (more row from n j e ∙ ap (λ o. filter_map row (range_with_len from n) ++ cons_option o []) here)

-- it has none
pub no_row : (row : ℕ → Option Data) (from n j : ℕ) (items : List Value) → from + n ≡ j → row j ≡ None → map view items ≡ filter_map row (range_with_len from n) → map view items ≡ filter_map row (range_with_len from (n + 1))
no_row row from n j items e here so_far = so_far ∙ sym (more row from n j e ∙ ap (λ o. filter_map row (range_with_len from n) ++ cons_option o []) here ∙ append-nil _)

-- one number more, of things that are kept as they are
pub next_there : {T : Type 0} (row : ℕ → Option T) (from n j : ℕ) (items : List T) (v : T) → from + n ≡ j → row j ≡ Some v → items ≡ filter_map row (range_with_len from n) → items ++ v ∷ [] ≡ filter_map row (range_with_len from (n + 1))
next_there row from n j items v e here so_far = ap (λ vs. vs ++ v ∷ []) so_far ∙ sym (more row from n j e ∙ ap (λ o. filter_map row (range_with_len from n) ++ cons_option o []) here)

pub next_none : {T : Type 0} (row : ℕ → Option T) (from n j : ℕ) (items : List T) → from + n ≡ j → row j ≡ None → items ≡ filter_map row (range_with_len from n) → items ≡ filter_map row (range_with_len from (n + 1))
next_none row from n j items e here so_far = so_far ∙ sym (more row from n j e ∙ ap (λ o. filter_map row (range_with_len from n) ++ cons_option o []) here ∙ append-nil _)

-- an item at its place is the first behind the ones before it
drop_here : {T : Type 0} (xs : List T) (place : ℕ) (x : T) → slice_get xs place ≡ Some x → drop place xs ≡ x ∷ drop (place + 1) xs
drop_here [] place x h = absurd (let e : None ≡ Some x = h in cc)
drop_here (y ∷ ys) zero x h =
    let e : Some y ≡ Some x = h in
    let same : y ≡ x = cc in
    ap (λ z. z ∷ ys) same
drop_here {T} (y ∷ ys) (suc place) x h =
    let next : suc place + 1 ≡ suc (place + 1) = omega arith in
    subst (λ n. drop place ys ≡ x ∷ drop n (y ∷ ys)) (sym next) (drop_here ys place x h)

-- items are told one after the other
pub next_told : {T : Type 0} (f : T → Data) (xs : List T) (place : ℕ) (x : T) (items : List Value) (v : Value) (all : List Data) → slice_get xs place ≡ Some x → view v ≡ f x → map view items ++ map f (drop place xs) ≡ all → map view (items ++ v ∷ []) ++ map f (drop (place + 1) xs) ≡ all
next_told f xs place x items v all here told so_far =
    ap (λ ds. ds ++ map f (drop (place + 1) xs)) (map_push view items v)
    ∙ append_assoc (map view items) (view v ∷ []) (map f (drop (place + 1) xs))
    ∙ ap (λ d. map view items ++ d ∷ map f (drop (place + 1) xs)) told
    ∙ ap (λ ys. map view items ++ map f ys) (sym (drop_here xs place x here))
    ∙ so_far
