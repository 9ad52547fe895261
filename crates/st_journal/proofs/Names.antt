-- The names behind some, one by one.
use Rattle.std.proofs.Common.{◌≡◌, ◌+◌, ◌<◌, ◌≤◌, ℕ, zero, suc, List, [], ◌∷◌, ◌++◌, length, take, drop, map, Some, slice_get, refl, sym, ap, ◌∙◌, arith, add-one}
use Rattle.std.proofs.lemmas.List.{drop-append-le, length-take-le, map-append}
use Rattle.std.proofs.lemmas.Option.{slice_get_within}
use Rattle.st_classes.proofs.LawLists.{take_at_place}
use Rattle.st_journal.specs.declared.entries.Entry.{Entry}
use Rattle.st_journal.specs.declared.entries.Entry.TheVariants as entry

nothing : {X : Type 0} (n : ℕ) (xs : List X) → drop n (take n xs) ≡ []
nothing zero [] = refl
nothing zero (x ∷ xs) = refl
nothing (suc n) [] = refl
nothing (suc n) (x ∷ xs) = nothing n xs

everything : {X : Type 0} (n : ℕ) (xs : List X) → length xs ≤ n → take n xs ≡ xs
everything zero [] h = refl
everything zero (x ∷ xs) h = absurd (omega (arith, h))
everything (suc n) [] h = refl
everything (suc n) (x ∷ xs) h = ap (λ ys. x ∷ ys) (everything n xs (omega (arith, h)))

-- the names that are told of those before a place
abbrev pub told_before : List (List ℕ) → ℕ → ℕ → List Entry
told_before names known place = map entry.Name (drop known (take place names))

pub none_told : (names : List (List ℕ)) (known : ℕ) → [] ≡ told_before names known known
none_told names known = ap (λ ts. map entry.Name ts) (sym (nothing known names))

pub one_told : (names : List (List ℕ)) (known place : ℕ) (text : List ℕ) → known ≤ place → slice_get names place ≡ Some text → told_before names known place ++ entry.Name text ∷ [] ≡ told_before names known (place + 1)
one_told names known place text low at =
    let within : place < length names = slice_get_within names place text at in
    let more : take (place + 1) names ≡ take place names ++ text ∷ [] = ap (λ (n : ℕ). take n names) (add-one place) ∙ take_at_place names place text at in
    let behind : drop known (take (place + 1) names) ≡ drop known (take place names) ++ text ∷ [] =
    ap (λ ts. drop known ts) more ∙ drop-append-le known (take place names) (text ∷ []) (omega (arith, length-take-le place names (omega (arith, within)))) in
    sym (ap (λ ts. map entry.Name ts) behind ∙ map-append entry.Name (drop known (take place names)) (text ∷ []))

pub all_told : (names : List (List ℕ)) (known place : ℕ) → length names ≤ place → told_before names known place ≡ map entry.Name (drop known names)
all_told names known place h = ap (λ ts. map entry.Name (drop known ts)) (everything place names h)

-- one entry more
pub step_told : (names : List (List ℕ)) (known place : ℕ) (old new : List Entry) (copy text : List ℕ) → new ≡ old ++ entry.Name copy ∷ [] → copy ≡ text → known ≤ place → slice_get names place ≡ Some text → old ≡ told_before names known place → new ≡ told_before names known (place + 1)
step_told names known place old new copy text push same low at so_far =
    push
    ∙ ap (λ (es : List Entry). es ++ entry.Name copy ∷ []) so_far
    ∙ ap (λ (t : List ℕ). told_before names known place ++ entry.Name t ∷ []) same
    ∙ one_told names known place text low at
