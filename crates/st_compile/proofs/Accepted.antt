-- What holds of a code of which nothing is refused.
use Rattle.std.proofs.Common.{◌≡◌, ℕ, ◌≤◌, Bool, true, false, not, leb, List, [], ◌∷◌, length, map, filter, None, refl, sym, ◌∙◌, suc, ltb, arith}
use Rattle.std.specs.List.{list_all}
use Rattle.std.proofs.lemmas.Bool.{and_parts, and_from, leb-true, false≢true, not-false}
use Rattle.std.proofs.lemmas.Bool.Decides.{nat_tests}
use Rattle.st_classes.specs.Refusals.{Rule, first_of}
use Rattle.st_reader.specs.declared.trees.Name.{Name}
use Rattle.st_compile.specs.CompileRules.{clash_rule, is_known, is_small, scope_rules, size_rule, start_of, unknown_rule}
use Rattle.st_compile.specs.NameResolution.{Scope}
use Rattle.st_compile.specs.DraftCode.{Line}

first_none : (r : Rule) (rs : List Rule) → first_of (r ∷ rs) ≡ None → (r.0 ≡ false) × (first_of rs ≡ None)
first_none (true, e) rs h = cc
first_none (false, e) rs h = (refl, h)

none_filtered : {X : Type 0} (p : X → Bool) (f : X → ℕ) (xs : List X) → ltb 0 (length (map f (filter (λ x. not (p x)) xs))) ≡ false → list_all p xs ≡ true
none_filtered p f [] h = refl
none_filtered p f (x ∷ xs) h = by (p x) refl (none_filtered p f xs)
  where
    by : (v : Bool) → p x ≡ v → (ltb 0 (length (map f (filter (λ y. not (p y)) xs))) ≡ false → list_all p xs ≡ true) → list_all p (x ∷ xs) ≡ true
    by true e rest =
        let k : ltb 0 (length (map f (filter (λ y. not (p y)) xs))) ≡ false = rw e at h in
        and_from (p x) (list_all p xs) e (rest k)
    by false e rest =
        let k : ltb 0 (suc (length (map f (filter (λ y. not (p y)) xs)))) ≡ false = rw e at h in
        let t : ltb 0 (suc (length (map f (filter (λ y. not (p y)) xs)))) ≡ true = grind (arith, nat_tests) in
        absurd (false≢true (sym k ∙ t))

pub rules_known : (scope : Scope) (locals : List Name) (ls : List Line) → first_of (scope_rules scope locals ls) ≡ None → list_all (λ l. is_known scope l.word) ls ≡ true
rules_known scope locals ls h =
    let a = first_none (unknown_rule scope ls) (clash_rule scope locals ∷ size_rule ls ∷ []) h in
    none_filtered (λ l. is_known scope l.word) (λ l. start_of l.word) ls a.0

pub rules_small : (scope : Scope) (locals : List Name) (ls : List Line) → first_of (scope_rules scope locals ls) ≡ None → is_small ls ≡ true
rules_small scope locals ls h =
    let a = first_none (unknown_rule scope ls) (clash_rule scope locals ∷ size_rule ls ∷ []) h in
    let b = first_none (clash_rule scope locals) (size_rule ls ∷ []) a.1 in
    not-false (is_small ls) (first_none (size_rule ls) [] b.1).0

pub small_length : (ls : List Line) → is_small ls ≡ true → length ls ≤ 1024
small_length ls h = leb-true (length ls) 1024 (and_parts (leb (length ls) 1024) (list_all (λ l. leb l.depth 64) ls) h).0

pub small_depths : (ls : List Line) → is_small ls ≡ true → list_all (λ l. leb l.depth 64) ls ≡ true
small_depths ls h = (and_parts (leb (length ls) 1024) (list_all (λ l. leb l.depth 64) ls) h).1
