-- Actors that begin anew one after the other, from the last to the first.
use Rattle.std.proofs.Common.{arith, ◌≡◌, ℕ, suc, ◌<◌, ◌≤◌, ◌++◌, [], ◌∷◌, List, Some, refl, ap, sym, ◌∙◌, length, length-append, map, take, drop, slice_get, slice_set, add-one, append_assoc}
use Rattle.std.proofs.Math.Seq.{set-append_seam}
use Rattle.std.proofs.lemmas.List.{append-nil, drop_all, length-map, length-take-le, map-append, take_all}
use Rattle.st_classes.proofs.LawLists.{slice_get_here, take_at_place}
use Rattle.st_turn.specs.declared.body.Outcome.{Outcome}
use Rattle.st_image.specs.NewestResults.{Newest, kept_in}
use Rattle.st_image.specs.ActorViews.{ActorView, last_kept, view_anew}
use Rattle.st_image.proofs.Changing.{within_back}
use Rattle.st_image.proofs.OneMore.{rest_at}

-- lists that are alike end alike
last_alike : {X : Type 0} (xs ys : List X) (x y : X) → xs ++ x ∷ [] ≡ ys ++ y ∷ [] → (xs ≡ ys) × (x ≡ y)
last_alike [] [] x y e = (refl, cc)
last_alike [] (z ∷ ys) x y e = absurd (omega (arith, ap length e, length-append ys (y ∷ [])))
last_alike (z ∷ xs) [] x y e = absurd (omega (arith, ap length e, length-append xs (x ∷ [])))
last_alike (z ∷ xs) (u ∷ ys) x y e =
    let rest : xs ++ x ∷ [] ≡ ys ++ y ∷ [] = cc in
    let first : z ≡ u = cc in
    let p = last_alike xs ys x y rest in
    (cc, p.1)

-- the actors behind those whose results are left have begun anew
pub record AreLeft (olds : List ActorView) (left : List (Newest Outcome)) (actors : List ActorView) : Type 0 where
  pub few : length left ≤ length olds
  pub fit : map kept_in left ≡ map last_kept (take (length left) olds)
  pub done : actors ≡ take (length left) olds ++ map view_anew (drop (length left) olds)

pub record IsNextLeft (olds : List ActorView) (left : List (Newest Outcome)) (last : Newest Outcome) (actors : List ActorView) : Type 0 where
  pub here : ActorView
  pub there : slice_get actors (length left) ≡ Some here
  pub fits : kept_in last ≡ last_kept here
  pub after : AreLeft olds left (slice_set actors (length left) (view_anew here))

pub next_left : (olds actors : List ActorView) (all left : List (Newest Outcome)) (last : Newest Outcome) → all ≡ left ++ last ∷ [] → AreLeft olds all actors → IsNextLeft olds left last actors
next_left olds actors all left last e h =
    let n : ℕ = length left in
    let long : length all ≡ suc n = ap length e ∙ length-append left (last ∷ []) ∙ add-one n in
    let within : n < length olds = omega (arith, long, h.few) in
    let x = within_back olds n (length olds) within refl in
    let some : n ≤ length olds = omega (arith, within) in
    let front : length (take n olds) ≡ n = length-take-le n olds some in
    let first : take (length all) olds ≡ take n olds ++ x.0 ∷ [] = ap (λ (k : ℕ). take k olds) long ∙ take_at_place olds n x.0 x.1 in
    let rest : List ActorView = map view_anew (drop (suc n) olds) in
    let was : map kept_in left ++ kept_in last ∷ [] ≡ map last_kept (take n olds) ++ last_kept x.0 ∷ [] =
    sym (map-append kept_in left (last ∷ []))
    ∙ ap (map kept_in) (sym e)
    ∙ h.fit
    ∙ ap (map last_kept) first
    ∙ map-append last_kept (take n olds) (x.0 ∷ []) in
    let ends = last_alike (map kept_in left) (map last_kept (take n olds)) (kept_in last) (last_kept x.0) was in
    let actors_are : actors ≡ take n olds ++ x.0 ∷ rest =
    h.done
    ∙ ap (λ (ks : List ActorView). ks ++ map view_anew (drop (length all) olds)) first
    ∙ ap (λ (k : ℕ). (take n olds ++ x.0 ∷ []) ++ map view_anew (drop k olds)) long
    ∙ append_assoc (take n olds) (x.0 ∷ []) rest in
    let there : slice_get actors n ≡ Some x.0 =
    ap (λ (ks : List ActorView). slice_get ks n) actors_are
    ∙ ap (λ (k : ℕ). slice_get (take n olds ++ x.0 ∷ rest) k) (sym front)
    ∙ slice_get_here (take n olds) x.0 rest in
    let put : slice_set actors n (view_anew x.0) ≡ take n olds ++ view_anew x.0 ∷ rest =
    ap (λ (ks : List ActorView). slice_set ks n (view_anew x.0)) actors_are
    ∙ ap (λ (k : ℕ). slice_set (take n olds ++ x.0 ∷ rest) k (view_anew x.0)) (sym front)
    ∙ set-append_seam (take n olds) x.0 rest (view_anew x.0) in
    record {
      here = x.0;
      there = there;
      fits = ends.1;
      after = record {
        few = some;
        fit = ends.0;
        done = put ∙ ap (λ (ks : List ActorView). take n olds ++ map view_anew ks) (sym (rest_at olds n x.0 x.1));
      };
    }

-- at first all are left, and at last none
pub all_left : (olds : List ActorView) (results : List (Newest Outcome)) → map kept_in results ≡ map last_kept olds → AreLeft olds results olds
all_left olds results e =
    let long : length results ≡ length olds = sym (length-map results kept_in) ∙ ap length e ∙ length-map olds last_kept in
    let all : take (length results) olds ≡ olds = take_all (length results) olds (omega (arith, long)) in
    let none : drop (length results) olds ≡ [] = drop_all (length results) olds (omega (arith, long)) in
    record {
      few = omega (arith, long);
      fit = e ∙ ap (map last_kept) (sym all);
      done = sym (append-nil olds) ∙ ap (λ (ks : List ActorView). ks ++ []) (sym all) ∙ ap (λ (ks : List ActorView). take (length results) olds ++ map view_anew ks) (sym none);
    }

pub none_left : (olds actors : List ActorView) (left : List (Newest Outcome)) → length left ≡ 0 → AreLeft olds left actors → actors ≡ map view_anew olds
none_left olds actors [] e h = h.done
none_left olds actors (r ∷ rs) e h = absurd (omega (arith, e))
