-- How many installs stand in each class, install by install.
use Rattle.std.proofs.Common.{◌≡◌, ℕ, zero, suc, ◌+◌, ◌<◌, ◌≤◌, ◌==◌, true, List, [], ◌∷◌, ◌++◌, length, map, replicate, slice_set, slice_index_or, Option, Some, None, refl, sym, ap, ◌∙◌, arith, cond, subst, ap₂, take, ◌-◌}
use Rattle.std.specs.Prelude.{count_by}
use Rattle.std.specs.List.{range_with_len}
use Rattle.std.proofs.lemmas.Bool.Decides.{nat_tests}
use Rattle.std.proofs.lemmas.List.Sums.{count_by-le-length, sum_by_push}
use Rattle.std.proofs.lemmas.List.{length-map}
use Rattle.st_classes.specs.declared.values.ClassId.{ClassId}
use Rattle.st_classes.specs.declared.edits.Edit.{Edit}
use Rattle.st_classes.specs.Classes.{class_count, is_class}
use Rattle.st_classes.specs.Kernel.{class}
use Rattle.st_queries.proofs.Numbers.{counting_more, length_numbers}
use Rattle.st_queries.specs.OwnMethods.{is_class_of, standing}

-- how many of the installs at the first places stand in a class
abbrev pub installs_before : List Edit → ClassId → ℕ → ℕ
installs_before edits c n = count_by (λ place. is_class_of c (standing edits place)) (range_with_len 0 n)

-- how many more a number of a class has by what stands at one place
abbrev here : Option ClassId → ℕ → ℕ
here o n = cond (is_class_of (class n) o) 1 0

pub installs_more : (edits : List Edit) (c : ClassId) (n : ℕ) → installs_before edits c (n + 1) ≡ installs_before edits c n + cond (is_class_of c (standing edits n)) 1 0
installs_more edits c n =
    ap (count_by (λ place. is_class_of c (standing edits place))) (counting_more 0 n n (omega arith)) ∙ sum_by_push (λ place. cond (is_class_of c (standing edits place)) 1 0) (range_with_len 0 n) n

pub installs_few : (edits : List Edit) (c : ClassId) (n : ℕ) → installs_before edits c n ≤ n
installs_few edits c n =
    let most = count_by-le-length (λ place. is_class_of c (standing edits place)) (range_with_len 0 n) in
    omega (arith, length_numbers 0 n)

-- the counts by class
abbrev pub counts : List Edit → ℕ → ℕ → List ℕ
counts edits classes n = map (λ c. installs_before edits (class c) n) (range_with_len 0 classes)

pub none_yet : (edits : List Edit) (a classes : ℕ) → replicate classes 0 ≡ map (λ c. installs_before edits (class c) 0) (range_with_len a classes)
none_yet edits a zero = refl
none_yet edits a (suc n) = ap (λ ns. 0 ∷ ns) (none_yet edits (a + 1) n)

same : (f g : ℕ → ℕ) (a n : ℕ) → ((k : ℕ) → a ≤ k → f k ≡ g k) → map f (range_with_len a n) ≡ map g (range_with_len a n)
same f g a zero h = refl
same f g a (suc n) h = rw (h a (omega arith)) (ap (λ ks. g a ∷ ks) (same f g (a + 1) n (λ k le. h k (omega arith))))

-- nothing stands at the place
pub none_more : (edits : List Edit) (classes n : ℕ) → standing edits n ≡ None → counts edits classes n ≡ counts edits classes (n + 1)
none_more edits classes n e = same _ _ 0 classes (λ k le. sym (installs_more edits (class k) n ∙ ap (λ o. installs_before edits (class k) n + here o k) e ∙ omega arith))

-- one more at a place of a list of numbers
raised : (f : ℕ → ℕ) (a n d : ℕ) → d < n → slice_set (map f (range_with_len a n)) d (f (a + d) + 1) ≡ map (λ k. f k + cond (k == a + d) 1 0) (range_with_len a n)
raised f a zero d lt = absurd (omega arith)
raised f a (suc n) zero lt =
    let first : f (a + 0) + 1 ≡ f a + cond (a == a + 0) 1 0 = grind (arith, nat_tests) in
    rw first (ap (λ ks. (f a + cond (a == a + 0) 1 0) ∷ ks) (same f _ (a + 1) n (λ k le. grind (arith, nat_tests))))
raised f a (suc n) (suc d) lt =
    let place : a + suc d ≡ a + 1 + d = omega arith in
    let first : f a ≡ f a + cond (a == a + suc d) 1 0 = grind (arith, nat_tests) in
    let rest = subst (λ p. slice_set (map f (range_with_len (a + 1) n)) d (f p + 1) ≡ map (λ k. f k + cond (k == p) 1 0) (range_with_len (a + 1) n)) (sym place) (raised f (a + 1) n d (omega arith)) in
    ap₂ (λ k ks. k ∷ ks) first rest

at : (f : ℕ → ℕ) (a n d : ℕ) → d < n → slice_index_or (map f (range_with_len a n)) d 0 ≡ f (a + d)
at f a zero d lt = absurd (omega arith)
at f a (suc n) zero lt = ap f (omega arith)
at f a (suc n) (suc d) lt = let place : a + 1 + d ≡ a + suc d = omega arith in at f (a + 1) n d (omega arith) ∙ ap f place

pub at_class : (edits : List Edit) (classes n : ℕ) (d : ClassId) → d.0 < classes → slice_index_or (counts edits classes n) d.0 0 ≡ installs_before edits d n
at_class edits classes n d lt = let f : ℕ → ℕ = λ c. installs_before edits (class c) n in let place : 0 + d.0 ≡ d.0 = omega arith in at f 0 classes d.0 lt ∙ ap f place

pub length_counts : (edits : List Edit) (classes n : ℕ) → length (counts edits classes n) ≡ classes
length_counts edits classes n = length-map (range_with_len 0 classes) (λ c. installs_before edits (class c) n) ∙ length_numbers 0 classes

-- one of a class stands there
pub one_more : (edits : List Edit) (classes n : ℕ) (d : ClassId) → standing edits n ≡ Some d → d.0 < classes
    → slice_set (counts edits classes n) d.0 (slice_index_or (counts edits classes n) d.0 0 + 1) ≡ counts edits classes (n + 1)
one_more edits classes n d e lt =
    let f : ℕ → ℕ = λ c. installs_before edits (class c) n in
    let place : 0 + d.0 ≡ d.0 = omega arith in
    let first = subst (λ p. slice_set (counts edits classes n) d.0 (f p + 1) ≡ map (λ k. f k + cond (k == p) 1 0) (range_with_len 0 classes)) place (raised f 0 classes d.0 lt) in
    ap (λ m. slice_set (counts edits classes n) d.0 (m + 1)) (at_class edits classes n d lt) ∙ first ∙ same (λ k. f k + cond (k == d.0) 1 0) _ 0 classes (λ k le. sym (installs_more edits (class k) n ∙ ap (λ o. installs_before edits (class k) n + here o k) e))

-- a class's number is below how many there are
pub within : (edits : List Edit) (c : ClassId) → is_class edits c ≡ true → c.0 < class_count edits
within edits c h = grind (arith, nat_tests)

none_of : (n : ℕ) → take {A = ℕ} n [] ≡ []
none_of zero = refl
none_of (suc n) = refl

minus_none : (n : ℕ) → n - 0 ≡ n
minus_none n = omega arith

-- room that was filled with zeros
pub filled : (edits : List Edit) (classes : ℕ) → take classes [] ++ replicate (classes - 0) 0 ≡ counts edits classes 0
filled edits classes =
    ap₂ (λ xs n. xs ++ replicate n 0) (none_of classes) (minus_none classes) ∙ none_yet edits 0 classes
