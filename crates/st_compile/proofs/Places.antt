-- The place of a text in a list of texts.
use Rattle.std.proofs.Common.{◌≡◌, ℕ, zero, suc, ◌+◌, ◌<◌, ◌≤◌, Bool, true, false, cond, ltb, List, [], ◌∷◌, ◌++◌, length, Option, Some, None, slice_get, map, refl, sym, ap, ◌∙◌, arith}
use Rattle.std.specs.List.{position, position_or_len}
use Rattle.std.specs.Option.{option_map}
use Rattle.std.specs.Str.{bytes_eq}
use Rattle.std.proofs.lemmas.Bool.{ltb-true}
use Rattle.std.proofs.lemmas.Bool.Decides.{nat_tests}
use Rattle.std.proofs.lemmas.Option.{same_Some, none-some, slice_get_within}
use Rattle.std.proofs.lemmas.Slice.Eq.{bytes_eq-Decides}
use Rattle.st_classes.specs.Selectors.{place_of}
use Rattle.st_classes.specs.Names.{AreNames}
use Rattle.std.specs.Borrow.{Bor}
use Rattle.st_reader.specs.declared.trees.Name.{Name}
use Rattle.st_compile.specs.Scopes.{named}

-- the first place that passes, by recursion
abbrev pub first : {X : Type 0} → (X → Bool) → List X → Option ℕ
first p [] = None
first p (x ∷ xs) = cond (p x) (Some 0) (option_map suc (first p xs))

module _ {X : Type 0} (p : X → Bool) where
  cond-suc : (n m : ℕ) → cond (ltb (1 + n) (suc m)) (Some (1 + n)) None ≡ option_map suc (cond (ltb n m) (Some n) None)
  cond-suc n m = by (ltb n m) refl
    where
      by : (v : Bool) → ltb n m ≡ v → cond (ltb (1 + n) (suc m)) (Some (1 + n)) None ≡ option_map suc (cond (ltb n m) (Some n) None)
      by true e =
          let l : n < m = ltb-true n m e in
          let s : 1 + n ≡ suc n = omega arith in
          let t : ltb (1 + n) (suc m) ≡ true = grind (arith, nat_tests) in
          rw (t, e) (ap Some s)
      by false e =
          let t : ltb (1 + n) (suc m) ≡ false = grind (arith, nat_tests) in
          rw (t, e) refl

  pub position-first : (xs : List X) → position p xs ≡ first p xs
  position-first [] = refl
  position-first (x ∷ xs) = by (p x) refl (position-first xs)
    where
      by : (v : Bool) → p x ≡ v → position p xs ≡ first p xs → position p (x ∷ xs) ≡ first p (x ∷ xs)
      by true e h =
          let t : ltb 0 (suc (length xs)) ≡ true = grind (arith, nat_tests) in
          rw e (ap (λ (b : Bool). cond b (Some 0) None) t)
      by false e h = rw e (cond-suc (position_or_len p xs) (length xs) ∙ ap (option_map suc) h)

  pub first-append : (xs ys : List X) (n : ℕ) → first p xs ≡ Some n → first p (xs ++ ys) ≡ Some n
  first-append [] ys n h = absurd (none-some n h)
  first-append (x ∷ xs) ys n h = by (p x) refl (first p xs) refl (first-append xs ys)
    where
      by : (v : Bool) → p x ≡ v → (o : Option ℕ) → first p xs ≡ o → ((m : ℕ) → first p xs ≡ Some m → first p (xs ++ ys) ≡ Some m) → first p (x ∷ xs ++ ys) ≡ Some n
      by true e o q rest =
          let k : Some 0 ≡ Some n = rw e at h in
          rw e k
      by false e None q rest =
          let k : None ≡ Some n = rw (e, q) at h in
          absurd (none-some n k)
      by false e (Some m) q rest =
          let k : Some (suc m) ≡ Some n = rw (e, q) at h in
          rw (e, rest m q) k

  -- what is at the first place
  pub at-first : (xs : List X) (n : ℕ) → first p xs ≡ Some n → (x : X) × (slice_get xs n ≡ Some x) × (p x ≡ true)
  at-first [] n h = absurd (none-some n h)
  at-first (x ∷ xs) n h = by (p x) refl (first p xs) refl (at-first xs)
    where
      by : (v : Bool) → p x ≡ v → (o : Option ℕ) → first p xs ≡ o → ((m : ℕ) → first p xs ≡ Some m → (y : X) × (slice_get xs m ≡ Some y) × (p y ≡ true)) → (y : X) × (slice_get (x ∷ xs) n ≡ Some y) × (p y ≡ true)
      by true e o q rest =
          let k : Some 0 ≡ Some n = rw e at h in
          let z : n ≡ 0 = sym (same_Some 0 n k) in
          (x, rw z refl, e)
      by false e None q rest =
          let k : None ≡ Some n = rw (e, q) at h in
          absurd (none-some n k)
      by false e (Some m) q rest =
          let k : Some (suc m) ≡ Some n = rw (e, q) at h in
          let z : n ≡ suc m = sym (same_Some (suc m) n k) in
          let r = rest m q in
          (r.0, rw z (r.1), r.2)

  -- the one place that passes is the first
  pub first-one : (xs : List X) (n : ℕ) (x : X) → slice_get xs n ≡ Some x → p x ≡ true → ((m : ℕ) (y : X) → slice_get xs m ≡ Some y → p y ≡ true → m ≡ n) → first p xs ≡ Some n
  first-one [] n x h t one = absurd (none-some x h)
  first-one (y ∷ xs) zero x h t one =
      let e : y ≡ x = same_Some y x h in
      let u : p y ≡ true = rw e t in
      rw u refl
  first-one (y ∷ xs) (suc n) x h t one = by (p y) refl (first-one xs n x h t (λ m z q u. let k : suc m ≡ suc n = one (suc m) z q u in omega arith))
    where
      by : (v : Bool) → p y ≡ v → first p xs ≡ Some n → first p (y ∷ xs) ≡ Some (suc n)
      by true e rest =
          let k : 0 ≡ suc n = one 0 y refl e in
          absurd (omega arith)
      by false e rest = rw (e, rest) refl

-- a text keeps its place where names are added behind
pub place-append : (names more : List (List ℕ)) (text : List ℕ) (n : ℕ) → place_of names text ≡ Some n → place_of (names ++ more) text ≡ Some n
place-append names more text n h = position-first (bytes_eq text) (names ++ more) ∙ first-append (bytes_eq text) names more n (sym (position-first (bytes_eq text) names) ∙ h)

same_text : (text other : List ℕ) → bytes_eq text other ≡ true → text ≡ other
same_text text other h = (bytes_eq-Decides text other).0 h

-- the text at a text's place is that text
pub at-place : (names : List (List ℕ)) (text : List ℕ) (n : ℕ) → place_of names text ≡ Some n → slice_get names n ≡ Some text
at-place names text n h =
    let r = at-first (bytes_eq text) names n (sym (position-first (bytes_eq text) names) ∙ h) in
    r.1 ∙ ap Some (sym (same_text text r.0 r.2))

pub place-within : (names : List (List ℕ)) (text : List ℕ) (n : ℕ) → place_of names text ≡ Some n → n < length names
place-within names text n h = slice_get_within names n text (at-place names text n h)

-- in a name table a text's place is where it stands
pub place-of_name : (names : List (List ℕ)) → AreNames names → (text : List ℕ) (n : ℕ) → slice_get names n ≡ Some text → place_of names text ≡ Some n
place-of_name names a text n h = position-first (bytes_eq text) names ∙ first-one (bytes_eq text) names n text h ((bytes_eq-Decides text text).1 refl) (λ m y q t. a.different m n text (q ∙ ap Some (sym (same_text text y t))) h)

-- among names, by their texts
place-named : (names : List (Bor Name)) (text : List ℕ) → first (λ n. bytes_eq text n.now.text) names ≡ first (bytes_eq text) (map (λ n. n.text) (named names))
place-named [] text = refl
place-named (n ∷ names) text = ap (λ (o : Option ℕ). cond (bytes_eq text n.now.text) (Some 0) (option_map suc o)) (place-named names text)

pub local_place : (names : List (Bor Name)) (text : List ℕ) → position (λ n. bytes_eq text n.now.text) names ≡ place_of (map (λ n. n.text) (named names)) text
local_place names text = position-first (λ n. bytes_eq text n.now.text) names ∙ (place-named names text ∙ sym (position-first (bytes_eq text) (map (λ n. n.text) (named names))))

-- a place among few
pub place_few : (names : List (List ℕ)) (text : List ℕ) (n : ℕ) → place_of names text ≡ Some n → length names ≤ 64 → n < 64
place_few names text n h l = omega (arith, l, place-within names text n h)

pub first-within : {X : Type 0} (p : X → Bool) (xs : List X) (n : ℕ) → first p xs ≡ Some n → n < length xs
first-within p xs n h =
    let r = at-first p xs n h in
    slice_get_within xs n r.0 r.1
