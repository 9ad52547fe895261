-- Names and edits that are loaded one after the other: how far a row of them has come.
use Rattle.std.proofs.Common.{◌≡◌, ℕ, suc, ◌+◌, ◌<◌, ◌≤◌, List, ◌∷◌, length, get_or, drop, refl, sym, ap, subst, ◌∙◌, drop-cons, add-one}
use Rattle.std.proofs.lemmas.List.{drop_all}
use Rattle.st_image.specs.Loading.{LoaderView, LoadsAll, LeadsToOne, Nowhere}

-- so many are loaded: what is left leads to where all lead
pub record Goes {T : Type 0} (step : LoaderView → T → LoaderView → Type 0) (start now : LoaderView) (xs : List T) (i : ℕ) : Type 0 where
  pub on : (n : LoaderView) → LoadsAll step now (drop i xs) n → LoadsAll step start xs n
  pub back : (n : LoaderView) → LoadsAll step start xs n → LoadsAll step now (drop i xs) n

pub goes_none : {T : Type 0} (step : LoaderView → T → LoaderView → Type 0) (l : LoaderView) (xs : List T) → Goes step l l xs 0
goes_none step l xs = record { on = λ n h. h; back = λ n h. h }

rest_is : {T : Type 0} (xs : List T) (i : ℕ) (x : T) → i < length xs → x ≡ get_or xs i x → drop i xs ≡ x ∷ drop (i + 1) xs
rest_is {T} xs i x h e =
    drop-cons xs i x h
    ∙ ap (λ (y : T). y ∷ drop (suc i) xs) (sym e)
    ∙ ap (λ (k : ℕ). x ∷ drop k xs) (sym (add-one i))

-- one more is loaded
pub goes_more : {T : Type 0} (step : LoaderView → T → LoaderView → Type 0) (start now next : LoaderView) (xs : List T) (i : ℕ) (x : T) → LeadsToOne step → i < length xs → x ≡ get_or xs i x → Goes step start now xs i → step now x next → Goes step start next xs (i + 1)
goes_more {T} step start now next xs i x once h e g s = record {
  on = λ n r. g.on n (subst (λ (ys : List T). LoadsAll step now ys n) (sym (rest_is xs i x h e)) (next, s, r));
  back = λ n r.
      let all : LoadsAll step now (x ∷ drop (i + 1) xs) n = subst (λ (ys : List T). LoadsAll step now ys n) (rest_is xs i x h e) (g.back n r) in
      subst (λ (m : LoaderView). LoadsAll step m (drop (i + 1) xs) n) (once now x all.0 next all.1 s) all.2;
}

-- all are loaded
pub goes_all : {T : Type 0} (step : LoaderView → T → LoaderView → Type 0) (start now : LoaderView) (xs : List T) (i : ℕ) → length xs ≤ i → Goes step start now xs i → LoadsAll step start xs now
goes_all {T} step start now xs i h g = g.on now (subst (λ (ys : List T). LoadsAll step now ys now) (sym (drop_all i xs h)) refl)

-- where nothing loads one nothing loads all
pub goes_nowhere : {T : Type 0} (step : LoaderView → T → LoaderView → Type 0) (start now : LoaderView) (xs : List T) (i : ℕ) (x : T) → i < length xs → x ≡ get_or xs i x → Goes step start now xs i → Nowhere (step now x) → Nowhere (LoadsAll step start xs)
goes_nowhere {T} step start now xs i x h e g fails = λ n r.
    let all : LoadsAll step now (x ∷ drop (i + 1) xs) n = subst (λ (ys : List T). LoadsAll step now ys n) (rest_is xs i x h e) (g.back n r) in
    fails all.0 all.1
