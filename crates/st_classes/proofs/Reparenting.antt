-- What another superclass of a class leaves: every other class, the names, and all instance variables.
use Rattle.std.proofs.Common.{arith, refl, ◌≡◌, ◌≢◌, ℕ, ◌+◌, ◌<◌, ◌≤◌, List, [], ◌∷◌, ◌++◌, Option, Some, None, Bool, true, false, nat_eq, ◌||◌, slice_get, zero, suc, map, ap, sym, ◌∙◌, length, subst, reverse, option_map, option_and_then, eqb-true, ltb-false}
use Rattle.std.specs.List.{flat_map, list_any, range_with_len}
use Rattle.std.proofs.lemmas.Bool.{eq-eqb}
use Rattle.st_classes.specs.declared.values.ClassId.{ClassId}
use Rattle.st_classes.specs.Kernel.{class}
use Rattle.st_classes.specs.Classes.{IsForest, ClassDef, reparented, parent_in, chain_of, own_slots}
use Rattle.st_classes.specs.EditRules.{is_too_deep, has_too_deep}
use Rattle.st_classes.proofs.Chains.{chain_more, class_within, flat_map_up}

pub reparented_long : (cs : List ClassDef) (n : ℕ) (p : ClassId) → length (reparented cs n p) ≡ length cs
reparented_long [] n p = refl
reparented_long (d ∷ cs) zero p = refl
reparented_long (d ∷ cs) (suc n) p = ap suc (reparented_long cs n p)

-- another class stays
pub reparented_other : (cs : List ClassDef) (n : ℕ) (p : ClassId) (k : ℕ) → k ≢ n → slice_get (reparented cs n p) k ≡ slice_get cs k
reparented_other [] n p k h = refl
reparented_other (d ∷ cs) zero p zero h = absurd (h refl)
reparented_other (d ∷ cs) zero p (suc k) h = refl
reparented_other (d ∷ cs) (suc n) p zero h = refl
reparented_other (d ∷ cs) (suc n) p (suc k) h = reparented_other cs n p k (λ e. h (ap suc e))

pub parent_other : (cs : List ClassDef) (n : ℕ) (p c : ClassId) → c.0 ≢ n → parent_in (reparented cs n p) c ≡ parent_in cs c
parent_other cs n p c h = ap (option_and_then (λ (d : ClassDef). d.parent)) (reparented_other cs n p c.0 h)

parent_at : (cs : List ClassDef) (n : ℕ) (p : ClassId) → n < length cs → parent_in (reparented cs n p) (class n) ≡ Some p
parent_at [] n p h = absurd (omega (arith, h))
parent_at (d ∷ cs) zero p h = refl
parent_at (d ∷ cs) (suc n) p h = parent_at cs n p (omega (arith, h))

-- the class itself is under the new superclass
pub parent_here : (cs : List ClassDef) (c p : ClassId) → c.0 < length cs → parent_in (reparented cs c.0 p) c ≡ Some p
parent_here cs c p h = parent_at cs c.0 p h

-- a class keeps its name
pub name_kept : (cs : List ClassDef) (n : ℕ) (p : ClassId) (k : ℕ) → option_map (λ (d : ClassDef). d.name) (slice_get (reparented cs n p) k) ≡ option_map (λ (d : ClassDef). d.name) (slice_get cs k)
name_kept [] n p k = refl
name_kept (d ∷ cs) zero p zero = refl
name_kept (d ∷ cs) zero p (suc k) = refl
name_kept (d ∷ cs) (suc n) p zero = refl
name_kept (d ∷ cs) (suc n) p (suc k) = name_kept cs n p k

pub names_kept : (cs : List ClassDef) (n : ℕ) (p : ClassId) → map (λ (d : ClassDef). d.name) (reparented cs n p) ≡ map (λ (d : ClassDef). d.name) cs
names_kept [] n p = refl
names_kept (d ∷ cs) zero p = refl
names_kept (d ∷ cs) (suc n) p = ap (λ (ns : List (List ℕ)). d.name ∷ ns) (names_kept cs n p)

-- and the instance variables that it adds
own_slots_at : (cs : List ClassDef) (n : ℕ) (p : ClassId) (k : ℕ) → own_slots (reparented cs n p) (class k) ≡ own_slots cs (class k)
own_slots_at [] n p k = refl
own_slots_at (d ∷ cs) zero p zero = refl
own_slots_at (d ∷ cs) zero p (suc k) = refl
own_slots_at (d ∷ cs) (suc n) p zero = refl
own_slots_at (d ∷ cs) (suc n) p (suc k) = own_slots_at cs n p k

pub own_slots_kept : (cs : List ClassDef) (n : ℕ) (p c : ClassId) → own_slots (reparented cs n p) c ≡ own_slots cs c
own_slots_kept cs n p c = own_slots_at cs n p c.0

-- ---- the forest

or_false : (a b : Bool) → (a || b) ≡ false → (a ≡ false) × (b ≡ false)
or_false true b h = cc
or_false false b h = (refl, h)

-- a test that no number of a range passes
none_in_range : (test : ℕ → Bool) (a n k : ℕ) → list_any test (range_with_len a n) ≡ false → a ≤ k → k < a + n → test k ≡ false
none_in_range test a zero k h low high = absurd (omega (arith, low, high))
none_in_range test a (suc n) k h low high =
    let parts = or_false (test a) (list_any test (range_with_len (a + 1) n)) h in
    by parts.0 (λ (other : k ≢ a). none_in_range test (a + 1) n k parts.1 (omega (arith, low, other)) (omega (arith, high))) (nat_eq k a) refl
  where
    by : test a ≡ false → (k ≢ a → test k ≡ false) → (b : Bool) → nat_eq k a ≡ b → test k ≡ false
    by first rest true e = ap test (eqb-true k a e) ∙ first
    by first rest false e = rest (λ same. let t : nat_eq k a ≡ true = eq-eqb k a same in cc)

-- where no class is too deep, each has 64 classes on its chain at most
pub none_too_deep : (cs : List ClassDef) (c : ClassId) → has_too_deep cs ≡ false → c.0 < length cs → length (chain_of cs 65 (Some c)) ≤ 64
none_too_deep cs c h here = ltb-false 64 (length (chain_of cs 65 (Some c))) (none_in_range (λ (n : ℕ). is_too_deep cs (class n)) 0 (length cs) c.0 h (omega arith) (omega (arith, here)))

-- classes of which none is too deep are a forest
forest_shallow : (cs : List ClassDef) → ((c q : ClassId) → parent_in cs c ≡ Some q → q.0 < length cs) → has_too_deep cs ≡ false → IsForest cs
forest_shallow cs closed h = record {
  closed = closed;
  chains = λ c q e.
      let few : length (chain_of cs 65 (Some c)) ≤ 64 = none_too_deep cs c h (class_within cs c q e) in
      let up : chain_of cs 65 (Some c) ≡ c ∷ chain_of cs 64 (Some q) = ap (λ (o : Option ClassId). c ∷ chain_of cs 64 o) e in
      ap (λ (o : Option ClassId). c ∷ chain_of cs 63 o) e ∙ ap (λ (xs : List ClassId). c ∷ xs) (chain_more cs 63 (Some q) (omega (arith, few, ap (λ (xs : List ClassId). length xs) up)));
}

pub forest_moved : (cs : List ClassDef) (c p : ClassId) → IsForest cs → c.0 < length cs → p.0 < length cs → has_too_deep (reparented cs c.0 p) ≡ false → IsForest (reparented cs c.0 p)
forest_moved cs c p f here there shallow = forest_shallow (reparented cs c.0 p) (λ d q e. subst (λ (n : ℕ). q.0 < n) (sym (reparented_long cs c.0 p)) (closed d q e (nat_eq d.0 c.0) refl)) shallow
  where
    closed : (d q : ClassId) → parent_in (reparented cs c.0 p) d ≡ Some q → (b : Bool) → nat_eq d.0 c.0 ≡ b → q.0 < length cs
    closed d q e true same =
        let at : parent_in (reparented cs c.0 p) (class d.0) ≡ Some p = ap (λ (n : ℕ). parent_in (reparented cs c.0 p) (class n)) (eqb-true d.0 c.0 same) ∙ parent_here cs c p here in
        let is : p ≡ q = cc in
        subst (λ (x : ClassId). x.0 < length cs) is there
    closed d q e false other =
        let apart : d.0 ≢ c.0 = λ same. let t : nat_eq d.0 c.0 ≡ true = eq-eqb d.0 c.0 same in cc in
        f.closed d q (sym (parent_other cs c.0 p d apart) ∙ e)

-- ---- instance variables

-- those of a class, inherited ones first
abbrev pub slots_in : List ClassDef → ClassId → List (List ℕ)
slots_in cs c = flat_map (own_slots cs) (reverse (chain_of cs 64 (Some c)))

-- those of a class, or none
abbrev pub slots_of : List ClassDef → Option ClassId → List (List ℕ)
slots_of cs None = []
slots_of cs (Some p) = slots_in cs p

-- a class has those of its superclass, and then its own
pub slots_under : (cs : List ClassDef) (c : ClassId) (o : Option ClassId) → IsForest cs → parent_in cs c ≡ o → slots_in cs c ≡ slots_of cs o ++ own_slots cs c
slots_under cs c None f e = ap (λ (o : Option ClassId). flat_map (own_slots cs) (reverse (c ∷ chain_of cs 63 o))) e ∙ flat_map_up (own_slots cs) c []
slots_under cs c (Some p) f e = ap (λ (xs : List ClassId). flat_map (own_slots cs) (reverse xs)) (f.chains c p e) ∙ flat_map_up (own_slots cs) c (chain_of cs 64 (Some p))

module _ (cs : List ClassDef) (c p : ClassId) (f : IsForest cs) (g : IsForest (reparented cs c.0 p)) (here : c.0 < length cs) (same : slots_in cs p ≡ slots_of cs (parent_in cs c)) where
  -- a class whose superclass has what it had
  by_class : (d : ClassId) (o : Option ClassId) → parent_in (reparented cs c.0 p) d ≡ o → slots_of (reparented cs c.0 p) o ≡ slots_of cs o → (b : Bool) → nat_eq d.0 c.0 ≡ b → slots_in (reparented cs c.0 p) d ≡ slots_in cs d
  by_class d o e up true at =
      let n : d.0 ≡ c.0 = eqb-true d.0 c.0 at in
      let now : parent_in (reparented cs c.0 p) (class d.0) ≡ Some p = ap (λ (k : ℕ). parent_in (reparented cs c.0 p) (class k)) n ∙ parent_here cs c p here in
      let is : o ≡ Some p = cc in
      slots_under (reparented cs c.0 p) d o g e
      ∙ ap (λ (xs : List (List ℕ)). xs ++ own_slots (reparented cs c.0 p) d) (up ∙ ap (slots_of cs) is ∙ same ∙ ap (λ (k : ℕ). slots_of cs (parent_in cs (class k))) (sym n))
      ∙ ap (λ (xs : List (List ℕ)). slots_of cs (parent_in cs d) ++ xs) (own_slots_kept cs c.0 p d)
      ∙ sym (slots_under cs d (parent_in cs d) f refl)
  by_class d o e up false at =
      let apart : d.0 ≢ c.0 = λ same. let t : nat_eq d.0 c.0 ≡ true = eq-eqb d.0 c.0 same in cc in
      slots_under (reparented cs c.0 p) d o g e
      ∙ ap (λ (xs : List (List ℕ)). xs ++ own_slots (reparented cs c.0 p) d) up
      ∙ ap (λ (xs : List (List ℕ)). slots_of cs o ++ xs) (own_slots_kept cs c.0 p d)
      ∙ sym (slots_under cs d o f (sym (parent_other cs c.0 p d apart) ∙ e))

  climb : (n : ℕ) (d : ClassId) (o : Option ClassId) → parent_in (reparented cs c.0 p) d ≡ o → length (chain_of (reparented cs c.0 p) 64 (Some d)) ≤ n → slots_in (reparented cs c.0 p) d ≡ slots_in cs d
  climb zero d o e short = absurd (omega (arith, short))
  climb (suc n) d None e short = by_class d None e refl (nat_eq d.0 c.0) refl
  climb (suc n) d (Some q) e short = by_class d (Some q) e (climb n q (parent_in (reparented cs c.0 p) q) refl (omega (arith, short, ap (λ (xs : List ClassId). length xs) (g.chains d q e)))) (nat_eq d.0 c.0) refl

  -- every class has the instance variables that it had
  pub slots_moved : (d : ClassId) → slots_in (reparented cs c.0 p) d ≡ slots_in cs d
  slots_moved d = climb (length (chain_of (reparented cs c.0 p) 64 (Some d))) d (parent_in (reparented cs c.0 p) d) refl (omega arith)
