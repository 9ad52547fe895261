-- The keywords of a text, from one colon to the next.
use Rattle.std.proofs.Common.{◌≡◌, ℕ, suc, ◌+◌, ◌<◌, ◌≤◌, Bool, true, false, List, [], ◌∷◌, length, take, drop, Option, Some, None, eqb, ltb, if◌then◌else◌, refl, sym, ap, ◌∙◌, arith}
use Rattle.std.specs.List.{position, position_or_len}
use Rattle.std.specs.Option.{option_map}
use Rattle.std.proofs.lemmas.Bool.{ltb-true, ltb-false}
use Rattle.st_classes.specs.Selectors.{is_identifier, before_first_part, parts, keywords}

-- the place of the first colon, or the length
abbrev pub colon_or_end : List ℕ → ℕ
colon_or_end bs = position_or_len (λ b. eqb b 58) bs

one_on : (b k : ℕ) (bs : List ℕ) → (b ∷ take k bs) ∷ parts (drop (k + 1) bs) ≡ take (1 + k) (b ∷ bs) ∷ parts (drop (1 + k + 1) (b ∷ bs))
one_on b k bs =
    let p : 1 + k ≡ suc k = omega arith in
    let q : 1 + k + 1 ≡ suc (k + 1) = omega arith in
    rw (q, p) refl

-- with a colon, what is before it is the first part
pub parts-colon : (bs : List ℕ) → colon_or_end bs < length bs → parts bs ≡ take (colon_or_end bs) bs ∷ parts (drop (colon_or_end bs + 1) bs)
parts-colon [] h = absurd (omega arith)
parts-colon (b ∷ bs) h = by (eqb b 58) refl (parts-colon bs)
  where
    by : (v : Bool) → eqb b 58 ≡ v → (colon_or_end bs < length bs → parts bs ≡ take (colon_or_end bs) bs ∷ parts (drop (colon_or_end bs + 1) bs)) → parts (b ∷ bs) ≡ take (colon_or_end (b ∷ bs)) (b ∷ bs) ∷ parts (drop (colon_or_end (b ∷ bs) + 1) (b ∷ bs))
    by true e rest = rw e refl
    by false e rest =
        let l : 1 + colon_or_end bs < length (b ∷ bs) = rw e at h in
        let m : colon_or_end bs < length bs = omega arith in
        rw e (ap (before_first_part b) (rest m) ∙ one_on b (colon_or_end bs) bs)

-- without one, all of it is
pub parts-last : (bs : List ℕ) → length bs ≤ colon_or_end bs → parts bs ≡ bs ∷ []
parts-last [] h = refl
parts-last (b ∷ bs) h = by (eqb b 58) refl (parts-last bs)
  where
    by : (v : Bool) → eqb b 58 ≡ v → (length bs ≤ colon_or_end bs → parts bs ≡ bs ∷ []) → parts (b ∷ bs) ≡ (b ∷ bs) ∷ []
    by true e rest =
        let l : length (b ∷ bs) ≤ 0 = rw e at h in
        absurd (omega arith)
    by false e rest =
        let l : length (b ∷ bs) ≤ 1 + colon_or_end bs = rw e at h in
        let m : length bs ≤ colon_or_end bs = omega arith in
        rw e (ap (before_first_part b) (rest m))

before_first-keywords : (part : List ℕ) (b : ℕ) (ps : List (List ℕ)) → keywords (part ∷ before_first_part b ps) ≡ (if is_identifier part then option_map (λ n. n + 1) (keywords (before_first_part b ps)) else None)
before_first-keywords part b [] = refl
before_first-keywords part b (p ∷ ps) = refl

-- a part with more behind it
pub keywords-cons : (part bs : List ℕ) → keywords (part ∷ parts bs) ≡ (if is_identifier part then option_map (λ n. n + 1) (keywords (parts bs)) else None)
keywords-cons part [] = refl
keywords-cons part (b ∷ bs) = by (eqb b 58) refl
  where
    by : (v : Bool) → eqb b 58 ≡ v → keywords (part ∷ parts (b ∷ bs)) ≡ (if is_identifier part then option_map (λ n. n + 1) (keywords (parts (b ∷ bs))) else None)
    by true e = rw e refl
    by false e = rw e (before_first-keywords part b (parts bs))

-- the keywords of a text with a colon: one, where what is before it is an identifier, and those behind it
pub keywords-colon : (bs : List ℕ) (place : ℕ) → position (λ b. eqb b 58) bs ≡ Some place → keywords (parts bs) ≡ (if is_identifier (take place bs) then option_map (λ n. n + 1) (keywords (parts (drop (place + 1) bs))) else None)
keywords-colon bs place h = by (ltb (colon_or_end bs) (length bs)) refl
  where
    by : (v : Bool) → ltb (colon_or_end bs) (length bs) ≡ v → keywords (parts bs) ≡ (if is_identifier (take place bs) then option_map (λ n. n + 1) (keywords (parts (drop (place + 1) bs))) else None)
    by true e =
        let found : Some (colon_or_end bs) ≡ Some place = rw e at h in
        let same : colon_or_end bs ≡ place = cc in
        rw (parts-colon bs (ltb-true _ _ e), same) (keywords-cons (take place bs) (drop (place + 1) bs))
    by false e = let none : None ≡ Some place = rw e at h in cc

-- the keywords of a text with none: nothing may be behind the last colon
pub keywords-last : (bs : List ℕ) → position (λ b. eqb b 58) bs ≡ None → keywords (parts bs) ≡ (if eqb (length bs) 0 then Some 0 else None)
keywords-last bs h = by (ltb (colon_or_end bs) (length bs)) refl
  where
    by : (v : Bool) → ltb (colon_or_end bs) (length bs) ≡ v → keywords (parts bs) ≡ (if eqb (length bs) 0 then Some 0 else None)
    by true e = let some : Some (colon_or_end bs) ≡ None = rw e at h in cc
    by false e = rw (parts-last bs (ltb-false _ _ e)) refl

add_one_more : (count : ℕ) (o : Option ℕ) → option_map (λ n. n + count) (option_map (λ n. n + 1) o) ≡ option_map (λ n. n + (count + 1)) o
add_one_more count None = refl
add_one_more count (Some n) = let e : n + 1 + count ≡ n + (count + 1) = omega arith in ap Some e

-- a count of keywords, and what is left behind them
module _ (o : Option ℕ) (count : ℕ) (rest : List ℕ) (so_far : o ≡ option_map (λ n. n + count) (keywords (parts rest))) where
  pub count-more : (place : ℕ) → position (λ b. eqb b 58) rest ≡ Some place → is_identifier (take place rest) ≡ true → o ≡ option_map (λ n. n + (count + 1)) (keywords (parts (drop (place + 1) rest)))
  count-more place h good =
      let k : keywords (parts rest) ≡ option_map (λ n. n + 1) (keywords (parts (drop (place + 1) rest))) = keywords-colon rest place h ∙ rw good refl in
      so_far ∙ ap (option_map (λ n. n + count)) k ∙ add_one_more count (keywords (parts (drop (place + 1) rest)))

  pub count-stops : (place : ℕ) → position (λ b. eqb b 58) rest ≡ Some place → is_identifier (take place rest) ≡ false → None ≡ o
  count-stops place h bad =
      let k : keywords (parts rest) ≡ None = keywords-colon rest place h ∙ rw bad refl in
      sym (so_far ∙ ap (option_map (λ n. n + count)) k)

  pub count-left : position (λ b. eqb b 58) rest ≡ None → eqb (length rest) 0 ≡ false → None ≡ o
  count-left h some =
      let k : keywords (parts rest) ≡ None = keywords-last rest h ∙ rw some refl in
      sym (so_far ∙ ap (option_map (λ n. n + count)) k)
