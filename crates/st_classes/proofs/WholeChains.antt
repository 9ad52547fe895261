-- Chains that are whole, and what another superclass of a class makes of them.
use Rattle.std.proofs.Common.{arith, refl, ◌≡◌, ◌≢◌, ℕ, ◌+◌, ◌<◌, ◌≤◌, List, [], ◌∷◌, ◌++◌, Option, Some, None, Bool, true, false, ◌==◌, ◌||◌, zero, suc, ap, sym, ◌∙◌, length, length-append, subst, take, ◌-◌, nat_eq, nat_lt, eqb-true, ltb-true, ltb-false}
use Rattle.std.specs.List.{list_any, range_with_len}
use Rattle.std.proofs.lemmas.List.{length-take}
use Rattle.std.proofs.lemmas.Bool.{lt-ltb, le-ltb, eq-eqb}
use Rattle.st_classes.specs.declared.values.ClassId.{ClassId}
use Rattle.st_classes.specs.Kernel.{class}
use Rattle.st_classes.specs.Classes.{IsForest, ClassDef, reparented, parent_in, chain_of}
use Rattle.st_classes.specs.EditRules.{is_among, is_too_deep, has_too_deep}
use Rattle.st_classes.specs.Depths.{IsWhole, IsDeep}
use Rattle.st_classes.proofs.LawLookup.{same_class}
use Rattle.st_classes.proofs.Reparenting.{parent_here, parent_other}

none_chain : (cs : List ClassDef) (n : ℕ) → chain_of cs n None ≡ []
none_chain cs zero = refl
none_chain cs (suc n) = refl

-- a chain that is no longer where one looks further is whole
whole_from : (cs : List ClassDef) (n : ℕ) (o : Option ClassId) → chain_of cs (suc n) o ≡ chain_of cs n o → IsWhole cs o (chain_of cs n o)
whole_from cs zero None h more = none_chain cs (0 + more)
whole_from cs zero (Some c) h more = absurd (omega (arith, ap (λ (xs : List ClassId). length xs) h))
whole_from cs (suc n) None h more = none_chain cs (0 + more)
whole_from cs (suc n) (Some c) h more =
    let xs : List ClassId = chain_of cs n (parent_in cs c) in
    let up : chain_of cs (suc n) (parent_in cs c) ≡ xs = ap tail h in
    let count : suc (length xs) + more ≡ suc (length xs + more) = omega arith in
    ap (λ (k : ℕ). chain_of cs k (Some c)) count ∙ ap (λ (ys : List ClassId). c ∷ ys) (whole_from cs n (parent_in cs c) up more)
  where
    tail : List ClassId → List ClassId
    tail [] = []
    tail (x ∷ xs) = xs

-- the chains of a forest are whole
pub whole_forest : (cs : List ClassDef) (c : ClassId) → IsForest cs → IsWhole cs (Some c) (chain_of cs 64 (Some c))
whole_forest cs c f = whole_from cs 64 (Some c) (by (parent_in cs c) refl)
  where
    by : (o : Option ClassId) → parent_in cs c ≡ o → chain_of cs 65 (Some c) ≡ chain_of cs 64 (Some c)
    by None e = ap (λ (o : Option ClassId). c ∷ chain_of cs 64 o) e ∙ sym (ap (λ (o : Option ClassId). c ∷ chain_of cs 63 o) e)
    by (Some p) e = ap (λ (o : Option ClassId). c ∷ chain_of cs 64 o) e ∙ sym (f.chains c p e)

-- two whole chains are the same
pub whole_same : (cs : List ClassDef) (o : Option ClassId) (xs ys : List ClassId) → IsWhole cs o xs → IsWhole cs o ys → xs ≡ ys
whole_same cs o xs ys h g =
    let both : length xs + length ys ≡ length ys + length xs = omega arith in
    sym (h (length ys)) ∙ ap (λ (n : ℕ). chain_of cs n o) both ∙ g (length xs)

-- the chain above a class is whole where its own is
whole_above : (cs : List ClassDef) (d x : ClassId) (xs : List ClassId) → IsWhole cs (Some d) (x ∷ xs) → (d ≡ x) × IsWhole cs (parent_in cs d) xs
whole_above cs d x xs h = (head_is (h 0), λ more. tail_is (length xs + more) (ap (λ (k : ℕ). chain_of cs k (Some d)) (sym (count more)) ∙ h more))
  where
    count : (more : ℕ) → suc (length xs) + more ≡ suc (length xs + more)
    count more = omega arith

    head_is : chain_of cs (suc (length xs) + 0) (Some d) ≡ x ∷ xs → d ≡ x
    head_is e = let w : d ∷ chain_of cs (length xs + 0) (parent_in cs d) ≡ x ∷ xs = ap (λ (k : ℕ). chain_of cs k (Some d)) (sym (count 0)) ∙ e in cc

    tail_is : (n : ℕ) → d ∷ chain_of cs n (parent_in cs d) ≡ x ∷ xs → chain_of cs n (parent_in cs d) ≡ xs
    tail_is n e = cc

-- a class on top of a whole chain
pub whole_under : (cs : List ClassDef) (d : ClassId) (xs : List ClassId) → IsWhole cs (parent_in cs d) xs → IsWhole cs (Some d) (d ∷ xs)
whole_under cs d xs h more =
    let count : suc (length xs) + more ≡ suc (length xs + more) = omega arith in
    ap (λ (k : ℕ). chain_of cs k (Some d)) count ∙ ap (λ (ys : List ClassId). d ∷ ys) (h more)

none_whole : (cs : List ClassDef) (xs : List ClassId) → IsWhole cs None xs → xs ≡ []
none_whole cs xs h = sym (h 0) ∙ none_chain cs (length xs + 0)

or_false : (a b : Bool) → (a || b) ≡ false → (a ≡ false) × (b ≡ false)
or_false true b h = cc
or_false false b h = (refl, h)

other_number : (d c : ClassId) → (d.0 == c.0) ≡ false → d.0 ≢ c.0
other_number d c h e = let t : (d.0 == c.0) ≡ true = eq-eqb d.0 c.0 e in cc

-- a class is no deeper than those below it
pub above_shorter : (cs : List ClassDef) (c d : ClassId) (xs zs : List ClassId) → IsWhole cs (Some d) xs → IsWhole cs (Some c) zs → is_among xs c ≡ true → length zs ≤ length xs
above_shorter cs c d [] zs h g among = cc
above_shorter cs c d (x ∷ xs) zs h g among =
    let up = whole_above cs d x xs h in
    by (λ (q : ClassId) (u : IsWhole cs (Some q) xs) (rest : is_among xs c ≡ true). above_shorter cs c q xs zs u g rest) (d.0 == c.0) refl up.0 (parent_in cs d) up.1
  where
    by : ((q : ClassId) → IsWhole cs (Some q) xs → is_among xs c ≡ true → length zs ≤ length xs) → (b : Bool) → (d.0 == c.0) ≡ b → d ≡ x → (o : Option ClassId) → IsWhole cs o xs → length zs ≤ suc (length xs)
    by again true e same o u =
        let is : d ≡ c = same_class d c (eqb-true d.0 c.0 e) in
        let all : x ∷ xs ≡ zs = whole_same cs (Some c) (x ∷ xs) zs (subst (λ (k : ClassId). IsWhole cs (Some k) (x ∷ xs)) is h) g in
        omega (arith, ap (λ (ys : List ClassId). length ys) all)
    by again false e same None u = let none : xs ≡ [] = none_whole cs xs u in let out : is_among xs c ≡ false = ap (λ (qs : List ClassId). is_among qs c) none in let first : (x.0 == c.0) ≡ false = ap (λ (k : ClassId). k.0 == c.0) (sym same) ∙ e in let rest : is_among xs c ≡ true = ap (λ (b : Bool). b || is_among xs c) (sym first) ∙ among in cc
    by again false e same (Some q) u =
        let first : (x.0 == c.0) ≡ false = ap (λ (k : ClassId). k.0 == c.0) (sym same) ∙ e in
        let rest : is_among xs c ≡ true = ap (λ (b : Bool). b || is_among xs c) (sym first) ∙ among in
        omega (arith, again q u rest)

pub forest_shorter : (cs : List ClassDef) (c d : ClassId) → IsForest cs → is_among (chain_of cs 64 (Some d)) c ≡ true → length (chain_of cs 64 (Some c)) ≤ length (chain_of cs 64 (Some d))
forest_shorter cs c d f among = above_shorter cs c d (chain_of cs 64 (Some d)) (chain_of cs 64 (Some c)) (whole_forest cs d f) (whole_forest cs c f) among

-- ---- another superclass of a class

module _ (cs : List ClassDef) (c p : ClassId) where
  new : List ClassDef
  new = reparented cs c.0 p

  -- a chain without the class stays
  apart : (n : ℕ) (o : Option ClassId) → is_among (chain_of cs n o) c ≡ false → chain_of (reparented cs c.0 p) n o ≡ chain_of cs n o
  apart zero o h = refl
  apart (suc n) None h = refl
  apart (suc n) (Some d) h =
      let parts = or_false (d.0 == c.0) (is_among (chain_of cs n (parent_in cs d)) c) h in
      ap (λ (o : Option ClassId). d ∷ chain_of (reparented cs c.0 p) n o) (parent_other cs c.0 p d (other_number d c parts.0))
      ∙ ap (λ (xs : List ClassId). d ∷ xs) (apart n (parent_in cs d) parts.1)

  pub whole_apart : (o : Option ClassId) (xs : List ClassId) → IsWhole cs o xs → is_among xs c ≡ false → IsWhole (reparented cs c.0 p) o xs
  whole_apart o xs h out more = apart (length xs + more) o (ap (λ (ys : List ClassId). is_among ys c) (h more) ∙ out) ∙ h more

  -- the chain of a class below ends in that of the class
  pub record Through (d : ClassId) (xs zs ys : List ClassId) : Type 0 where
    pub before : List ClassId
    pub was : xs ≡ before ++ zs
    pub now : IsWhole (reparented cs c.0 p) (Some d) (before ++ ys)

  pub through : (d : ClassId) (xs zs ys : List ClassId) → IsWhole cs (Some d) xs → IsWhole cs (Some c) zs → IsWhole (reparented cs c.0 p) (Some c) ys → is_among xs c ≡ true → Through d xs zs ys
  through d [] zs ys h g w among = cc
  through d (x ∷ xs) zs ys h g w among =
      let up = whole_above cs d x xs h in
      by (λ (q : ClassId) (u : IsWhole cs (Some q) xs) (rest : is_among xs c ≡ true). through q xs zs ys u g w rest) (d.0 == c.0) refl up.0 up.1
    where
      climb : ((q : ClassId) → IsWhole cs (Some q) xs → is_among xs c ≡ true → Through q xs zs ys) → d ≡ x → (o : Option ClassId) → parent_in cs d ≡ o → IsWhole cs o xs → (d.0 == c.0) ≡ false → is_among xs c ≡ true → Through d (x ∷ xs) zs ys
      climb again same None e u other rest = let none : xs ≡ [] = none_whole cs xs u in let out : is_among xs c ≡ false = ap (λ (qs : List ClassId). is_among qs c) none in cc
      climb again same (Some q) e u other rest =
          let t = again q u rest in
          let kept : parent_in (reparented cs c.0 p) d ≡ Some q = parent_other cs c.0 p d (other_number d c other) ∙ e in
          record {
            before = d ∷ t.before;
            was = ap (λ (y : ClassId). y ∷ xs) (sym same) ∙ ap (λ (qs : List ClassId). d ∷ qs) t.was;
            now = whole_under (reparented cs c.0 p) d (t.before ++ ys) (subst (λ (o : Option ClassId). IsWhole (reparented cs c.0 p) o (t.before ++ ys)) (sym kept) t.now);
          }

      by : ((q : ClassId) → IsWhole cs (Some q) xs → is_among xs c ≡ true → Through q xs zs ys) → (b : Bool) → (d.0 == c.0) ≡ b → d ≡ x → IsWhole cs (parent_in cs d) xs → Through d (x ∷ xs) zs ys
      by again true e same u =
          let is : d ≡ c = same_class d c (eqb-true d.0 c.0 e) in
          record {
            before = [];
            was = whole_same cs (Some c) (x ∷ xs) zs (subst (λ (k : ClassId). IsWhole cs (Some k) (x ∷ xs)) is h) g;
            now = subst (λ (k : ClassId). IsWhole (reparented cs c.0 p) (Some k) ys) (sym is) w;
          }
      by again false e same u =
          let first : (x.0 == c.0) ≡ false = ap (λ (k : ClassId). k.0 == c.0) (sym same) ∙ e in
          let rest : is_among xs c ≡ true = ap (λ (b : Bool). b || is_among xs c) (sym first) ∙ among in
          climb again same (parent_in cs d) refl u e rest

  -- how deep a class stands that is not below the one that was moved
  pub deep_apart : (d : ClassId) → IsForest cs → is_among (chain_of cs 64 (Some d)) c ≡ false → IsDeep (reparented cs c.0 p) d (length (chain_of cs 64 (Some d)))
  deep_apart d f out = record { above = chain_of cs 64 (Some d); whole = whole_apart (Some d) (chain_of cs 64 (Some d)) (whole_forest cs d f) out; long = refl }

  -- and one that is
  pub deep_below : (d : ClassId) (depth : ℕ) → IsForest cs → c.0 < length cs → is_among (chain_of cs 64 (Some p)) c ≡ false → is_among (chain_of cs 64 (Some d)) c ≡ true → depth + length (chain_of cs 64 (Some c)) ≡ length (chain_of cs 64 (Some d)) + length (chain_of cs 64 (Some p)) + 1 → IsDeep (reparented cs c.0 p) d depth
  deep_below d depth f here out below e =
      let up : List ClassId = chain_of cs 64 (Some p) in
      let above : IsWhole (reparented cs c.0 p) (Some p) up = whole_apart (Some p) up (whole_forest cs p f) out in
      let mine : IsWhole (reparented cs c.0 p) (Some c) (c ∷ up) = whole_under (reparented cs c.0 p) c up (subst (λ (o : Option ClassId). IsWhole (reparented cs c.0 p) o up) (sym (parent_here cs c p here)) above) in
      let t = through d (chain_of cs 64 (Some d)) (chain_of cs 64 (Some c)) (c ∷ up) (whole_forest cs d f) (whole_forest cs c f) mine below in
      record {
        above = t.before ++ c ∷ up;
        whole = t.now;
        long = omega (arith, e, ap (λ (xs : List ClassId). length xs) t.was, length-append t.before (chain_of cs 64 (Some c)), length-append t.before (c ∷ up));
      }

-- a shorter look at a chain shows its beginning
chain_take : (cs : List ClassDef) (n k : ℕ) (o : Option ClassId) → chain_of cs n o ≡ take n (chain_of cs (n + k) o)
chain_take cs zero k o = refl
chain_take cs (suc n) k None = sym (ap (λ (m : ℕ). take (suc n) (chain_of cs m None)) count)
  where
    count : suc n + k ≡ suc (n + k)
    count = omega arith
chain_take cs (suc n) k (Some c) =
    let count : suc n + k ≡ suc (n + k) = omega arith in
    ap (λ (xs : List ClassId). c ∷ xs) (chain_take cs n k (parent_in cs c)) ∙ sym (ap (λ (m : ℕ). take (suc n) (chain_of cs m (Some c))) count)

-- how much of a chain one sees
pub deep_long : (cs : List ClassDef) (c : ClassId) (depth n : ℕ) → IsDeep cs c depth → depth ≤ n → length (chain_of cs n (Some c)) ≡ depth
deep_long cs c depth n h l =
    let at : length h.above + (n - depth) ≡ n = omega (arith, h.long, l) in
    ap (λ (k : ℕ). length (chain_of cs k (Some c))) (sym at) ∙ ap (λ (xs : List ClassId). length xs) (h.whole (n - depth)) ∙ h.long

pub deep_longer : (cs : List ClassDef) (c : ClassId) (depth n : ℕ) → IsDeep cs c depth → n ≤ depth → length (chain_of cs n (Some c)) ≡ n
deep_longer cs c depth n h l =
    let at : n + (depth - n) ≡ length h.above + 0 = omega (arith, h.long, l) in
    ap (λ (xs : List ClassId). length xs) (chain_take cs n (depth - n) (Some c) ∙ ap (λ (k : ℕ). take n (chain_of cs k (Some c))) at ∙ ap (take n) (h.whole 0))
    ∙ length-take n h.above ∙ omega (arith, h.long, l)

-- ---- classes that are too deep

too_deep_by : (cs : List ClassDef) (c : ClassId) (depth : ℕ) → IsDeep cs c depth → (b : Bool) → nat_lt 64 depth ≡ b → is_too_deep cs c ≡ b
too_deep_by cs c depth h true e = ap (λ (n : ℕ). nat_lt 64 n) (deep_longer cs c depth 65 h (omega (arith, ltb-true 64 depth e)))
too_deep_by cs c depth h false e = ap (λ (n : ℕ). nat_lt 64 n) (deep_long cs c depth 65 h (omega (arith, ltb-false 64 depth e))) ∙ e

pub too_deep_is : (cs : List ClassDef) (c : ClassId) (depth : ℕ) → IsDeep cs c depth → is_too_deep cs c ≡ nat_lt 64 depth
too_deep_is cs c depth h = too_deep_by cs c depth h (nat_lt 64 depth) refl

-- a number of a range that passes a test
any_in_range : (test : ℕ → Bool) (a n k : ℕ) → test k ≡ true → a ≤ k → k < a + n → list_any test (range_with_len a n) ≡ true
any_in_range test a zero k h low high = absurd (omega (arith, low, high))
any_in_range test a (suc n) k h low high = by (λ (other : k ≢ a). any_in_range test (a + 1) n k h (omega (arith, low, other)) (omega (arith, high))) (nat_eq k a) refl
  where
    or_second : (x y : Bool) → y ≡ true → (x || y) ≡ true
    or_second true y e = refl
    or_second false y e = e

    by : (k ≢ a → list_any test (range_with_len (a + 1) n) ≡ true) → (b : Bool) → nat_eq k a ≡ b → (test a || list_any test (range_with_len (a + 1) n)) ≡ true
    by rest true e = ap (λ (x : Bool). x || list_any test (range_with_len (a + 1) n)) (ap test (sym (eqb-true k a e)) ∙ h)
    by rest false e = or_second (test a) (list_any test (range_with_len (a + 1) n)) (rest (λ same. let t : nat_eq k a ≡ true = eq-eqb k a same in cc))

-- a test that no number of a range passes
none_of_range : (test : ℕ → Bool) (a n : ℕ) → ((k : ℕ) → a ≤ k → k < a + n → test k ≡ false) → list_any test (range_with_len a n) ≡ false
none_of_range test a zero h = refl
none_of_range test a (suc n) h = ap (λ (b : Bool). b || list_any test (range_with_len (a + 1) n)) (h a (omega arith) (omega arith)) ∙ none_of_range test (a + 1) n (λ k low high. h k (omega (arith, low)) (omega (arith, high)))

pub one_too_deep : (cs : List ClassDef) (c : ClassId) (depth : ℕ) → c.0 < length cs → IsDeep cs c depth → 64 < depth → has_too_deep cs ≡ true
one_too_deep cs c depth here h over = any_in_range (λ (n : ℕ). is_too_deep cs (class n)) 0 (length cs) c.0 (too_deep_is cs c depth h ∙ lt-ltb 64 depth over) (omega arith) (omega (arith, here))

pub none_deep : (cs : List ClassDef) → ((k : ℕ) → k < length cs → is_too_deep cs (class k) ≡ false) → has_too_deep cs ≡ false
none_deep cs h = none_of_range (λ (n : ℕ). is_too_deep cs (class n)) 0 (length cs) (λ k low high. h k (omega (arith, high)))

-- the classes up to a number, and one more
pub not_deep_more : (cs : List ClassDef) (n depth : ℕ) → ((k : ℕ) → k < n → is_too_deep cs (class k) ≡ false) → IsDeep cs (class n) depth → depth ≤ 64 → (k : ℕ) → k < n + 1 → is_too_deep cs (class k) ≡ false
not_deep_more cs n depth h d few k l = by (nat_eq k n) refl
  where
    by : (b : Bool) → nat_eq k n ≡ b → is_too_deep cs (class k) ≡ false
    by true e = ap (λ (i : ℕ). is_too_deep cs (class i)) (eqb-true k n e) ∙ too_deep_is cs (class n) depth d ∙ le-ltb 64 depth few
    by false e = h k (omega (arith, l, (λ (same : k ≡ n). let t : nat_eq k n ≡ true = eq-eqb k n same in let f : ⊥ = cc in f)))

-- a chain has no more classes than one looks at
chain_few : (cs : List ClassDef) (n : ℕ) (o : Option ClassId) → length (chain_of cs n o) ≤ n
chain_few cs zero o = omega arith
chain_few cs (suc n) None = omega arith
chain_few cs (suc n) (Some c) = omega (arith, chain_few cs n (parent_in cs c))

-- a class is not above one that stands less deep
pub shallow_apart : (cs : List ClassDef) (c d : ClassId) → IsForest cs → length (chain_of cs 64 (Some d)) < length (chain_of cs 64 (Some c)) → is_among (chain_of cs 64 (Some d)) c ≡ false
shallow_apart cs c d f less = by (is_among (chain_of cs 64 (Some d)) c) refl
  where
    by : (b : Bool) → is_among (chain_of cs 64 (Some d)) c ≡ b → b ≡ false
    by true e = absurd (omega (arith, less, forest_shorter cs c d f e))
    by false e = refl

-- under a superclass that stands less deep than the class, no class gets a longer chain
pub none_deeper : (cs : List ClassDef) (c p : ClassId) → IsForest cs → c.0 < length cs → is_among (chain_of cs 64 (Some p)) c ≡ false → length (chain_of cs 64 (Some p)) < length (chain_of cs 64 (Some c)) → has_too_deep (reparented cs c.0 p) ≡ false
none_deeper cs c p f here out less = none_deep (reparented cs c.0 p) (λ k l. by (class k) (is_among (chain_of cs 64 (Some (class k))) c) refl)
  where
    by : (d : ClassId) (b : Bool) → is_among (chain_of cs 64 (Some d)) c ≡ b → is_too_deep (reparented cs c.0 p) d ≡ false
    by d true e =
        let shorter : length (chain_of cs 64 (Some c)) ≤ length (chain_of cs 64 (Some d)) = forest_shorter cs c d f e in
        let depth : ℕ = length (chain_of cs 64 (Some d)) - length (chain_of cs 64 (Some c)) + length (chain_of cs 64 (Some p)) + 1 in
        too_deep_is (reparented cs c.0 p) d depth (deep_below cs c p d depth f here out e (omega (arith, shorter))) ∙ le-ltb 64 depth (omega (arith, shorter, less, chain_few cs 64 (Some d)))
    by d false e =
        let depth : ℕ = length (chain_of cs 64 (Some d)) in
        too_deep_is (reparented cs c.0 p) d depth (deep_apart cs c p d f e) ∙ le-ltb 64 depth (chain_few cs 64 (Some d))

-- where no class is too deep, each depth is at most 64
pub deep_few : (cs : List ClassDef) (c : ClassId) (depth : ℕ) → has_too_deep cs ≡ false → c.0 < length cs → IsDeep cs c depth → depth ≤ 64
deep_few cs c depth none here h = by (nat_lt 64 depth) refl
  where
    by : (b : Bool) → nat_lt 64 depth ≡ b → depth ≤ 64
    by true e = let some : has_too_deep cs ≡ true = one_too_deep cs c depth here h (ltb-true 64 depth e) in cc
    by false e = ltb-false 64 depth e
