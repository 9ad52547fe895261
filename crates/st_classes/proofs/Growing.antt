-- One edit more.
use Rattle.std.proofs.Common.{arith, rules, tests, refl, ◌≡◌, ◌≢◌, ℕ, ◌+◌, ◌<◌, ◌≤◌, ◌⊎◌, List, [], ◌∷◌, ◌++◌, Option, Some, None, Bool, true, false, cond, nat_eq, nat_le, slice_get, zero, suc, ap, sym, ◌∙◌, length, subst, length-append, option_map, inl, inr, reverse}
use Rattle.std.proofs.Math.ListN.{set, length-set}
use Rattle.std.proofs.lemmas.Bool.Decides.{nat_tests}
use Rattle.std.specs.List.{flat_map}
use borrow.Author.Tests.{ltb-true}
use Rattle.std.proofs.lemmas.Bool.{eqb-true, eq-eqb}
use Rattle.st_classes.specs.declared.values.ClassId.{ClassId}
use Rattle.st_classes.specs.declared.values.Selector.{Selector}
use Rattle.st_classes.specs.declared.values.MethodId.{MethodId}
use Rattle.st_classes.specs.declared.edits.Edit.{Edit}
use Rattle.st_classes.specs.declared.kernel.Kernel.{Kernel}
use Rattle.st_classes.specs.declared.kernel.Found.{Found}
use Rattle.st_classes.specs.declared.kernel.Found.TheVariants.{User, Kernel as FoundKernel}
use Rattle.st_classes.specs.declared.class_rows.ClassRow.{ClassRow}
use Rattle.st_classes.specs.Kernel.{class, kernel_method}
use Rattle.st_classes.specs.Refusals.{Rule, first_of}
use Rattle.st_classes.specs.EditRules.{edit_rules}
use Rattle.st_classes.specs.Classes.{ClassDef, classes_after, classes, class_count, is_class, own_slots, parent_in, chain_of}
use Rattle.st_classes.specs.Walks.{own, own_from, decided, is_at, or_else}
use Rattle.st_classes.specs.ClassRows.{IsRow, Puts, row_method, row_own}
use Rattle.st_classes.specs.Tables.{IsKept, AreRows, IsAt}
use Rattle.st_classes.proofs.LawChains.{classes_push}
use Rattle.st_classes.proofs.LawGrowing.{lawful_with}

-- ---- the classes and the own methods of one edit more

pub classes_same : (es : List Edit) (e : Edit) → ((cs : List ClassDef) → classes_after cs e ≡ cs) → classes (es ++ e ∷ []) ≡ classes es
classes_same es e h = classes_push es e ∙ h (classes es)

own_from_push : (es : List Edit) (e : Edit) (place : ℕ) (o : Option Found) (c : ClassId) (s : Selector) → own_from place o (es ++ e ∷ []) c s ≡ decided e (place + length es) (own_from place o es c s) c s
own_from_push [] e place o c s = ap (λ (n : ℕ). decided e n o c s) (omega arith)
own_from_push (d ∷ es) e place o c s = own_from_push es e (place + 1) (decided d place o c s) c s ∙ ap (λ (n : ℕ). decided e n (own_from (place + 1) (decided d place o c s) es c s) c s) (omega arith)

-- the last edit decides
pub own_push : (es : List Edit) (e : Edit) (c : ClassId) (s : Selector) → own (es ++ e ∷ []) c s ≡ decided e (length es) (own es c s) c s
own_push es e c s = own_from_push es e 0 (option_map FoundKernel (kernel_method c s)) c s ∙ ap (λ (n : ℕ). decided e n (own es c s) c s) (omega arith)

-- ---- accepted edits

abbrev pub NoneApply : List Rule → Type 0
NoneApply [] = Unit {0}
NoneApply (rule ∷ rules) = (rule.0 ≡ false) × NoneApply rules

pub none_apply : (rules : List Rule) → first_of rules ≡ None → NoneApply rules
none_apply [] h = tt
none_apply ((true, r) ∷ rules) h = cc
none_apply ((false, r) ∷ rules) h = (refl, none_apply rules h)

pub few_push : (es : List Edit) (e : Edit) → nat_le 4096 (length es) ≡ false → length (es ++ e ∷ []) ≤ 4096
few_push es e h = let few : length es < 4096 = search (rules, tests) in omega (arith, few, length-append es (e ∷ []))

-- ---- an edit that leaves the classes

is_at_other : (d c : ClassId) (t s : Selector) → d.0 ≢ c.0 → is_at d t c s ≡ false
is_at_other d c t s h = grind (arith, nat_tests)

own_at_other : (es : List Edit) (e : Edit) (d : ClassId) (t : Selector) (o : Option MethodId) → IsAt e (length es) d t o → (c : ClassId) (s : Selector) → d.0 ≢ c.0 → own (es ++ e ∷ []) c s ≡ own es c s
own_at_other es e d t o a c s h = own_push es e c s ∙ a.decides (own es c s) c s ∙ ap (λ (b : Bool). cond b (option_map User o) (own es c s)) (is_at_other d c t s h)

pub kept_at : (es : List Edit) (e : Edit) (d : ClassId) (t : Selector) (o : Option MethodId) → IsKept es → IsAt e (length es) d t o → first_of (edit_rules es e) ≡ None → is_class es d ≡ true → nat_le 4096 (length es) ≡ false → IsKept (es ++ e ∷ [])
kept_at es e d t o k a h i few =
    let same : classes (es ++ e ∷ []) ≡ classes es = classes_same es e a.same_classes in
    let in_table : d.0 < class_count es = ltb-true d.0 (class_count es) i in
    record {
      lawful = lawful_with es e k.lawful h;
      beyond = λ c s g. let above : class_count es ≤ c.0 = omega (arith, g, ap (λ (cs : List ClassDef). length cs) same) in own_at_other es e d t o a c s (λ x. omega (arith, x, above, in_table)) ∙ k.beyond c s above;
      few = few_push es e few;
      few_classes = omega (arith, k.few_classes, ap (λ (cs : List ClassDef). length cs) same);
    }

-- a row of another class stays
row_other : (es : List Edit) (e : Edit) (d : ClassId) (t : Selector) (o : Option MethodId) → IsAt e (length es) d t o → (c : ClassId) (row : ClassRow) → d.0 ≢ c.0 → IsRow es c row → IsRow (es ++ e ∷ []) c row
row_other es e d t o a c row h r =
    let same : classes es ≡ classes (es ++ e ∷ []) = sym (classes_same es e a.same_classes) in
    record {
      named = subst (λ (cs : List ClassDef). option_map (λ (x : ClassDef). x.name) (slice_get cs c.0) ≡ Some row.name) same r.named;
      above = subst (λ (cs : List ClassDef). parent_in cs c ≡ row.superclass) same r.above;
      variables = subst (λ (cs : List ClassDef). flat_map (own_slots cs) (reverse (chain_of cs 64 (Some c))) ≡ row.slots) same r.variables;
      decides = λ s. own_at_other es e d t o a c s h ∙ r.decides s;
    }

by_test : (b : Bool) (o m was_method : Option MethodId) (kernel : Option Kernel) (was : Option Found) → (b ≡ true → kernel ≡ None) → was ≡ or_else (option_map User was_method) (option_map FoundKernel kernel) → m ≡ cond b o was_method → cond b (option_map User o) was ≡ or_else (option_map User m) (option_map FoundKernel kernel)
by_test true None m was_method kernel was k w e = rw (e, k refl)
by_test true (Some x) m was_method kernel was k w e = rw e
by_test false o m was_method kernel was k w e = rw e w

is_at_class : (d : ClassId) (t s : Selector) → is_at d t d s ≡ nat_eq t.0 s.0
is_at_class d t s = rw (eq-eqb d.0 d.0 refl)

decides_at : (d : ClassId) (t s : Selector) (o : Option MethodId) (row after : ClassRow) (was : Option Found) → kernel_method d t ≡ None → was ≡ row_own row d s → row_method after s ≡ cond (nat_eq t.0 s.0) o (row_method row s) → cond (is_at d t d s) (option_map User o) was ≡ row_own after d s
decides_at d t s o row after was k w m =
    ap (λ (b : Bool). cond b (option_map User o) was) (is_at_class d t s)
    ∙ by_test (nat_eq t.0 s.0) o (row_method after s) (row_method row s) (kernel_method d s) was (λ e. let n : t.0 ≡ s.0 = eqb-true t.0 s.0 e in subst (λ (i : ℕ). kernel_method d (record { 0 = i }) ≡ None) n k) w m

-- the row of the edit's class
row_at : (es : List Edit) (e : Edit) (d : ClassId) (t : Selector) (o : Option MethodId) → IsAt e (length es) d t o → kernel_method d t ≡ None → (row after : ClassRow) → IsRow es d row → Puts row after t o → IsRow (es ++ e ∷ []) d after
row_at es e d t o a k row after r p =
    let same : classes es ≡ classes (es ++ e ∷ []) = sym (classes_same es e a.same_classes) in
    record {
      named = subst (λ (cs : List ClassDef). option_map (λ (x : ClassDef). x.name) (slice_get cs d.0) ≡ Some after.name) same (r.named ∙ ap (λ (x : List ℕ). Some x) (sym p.same.name));
      above = subst (λ (cs : List ClassDef). parent_in cs d ≡ after.superclass) same (r.above ∙ sym p.same.above);
      variables = subst (λ (cs : List ClassDef). flat_map (own_slots cs) (reverse (chain_of cs 64 (Some d))) ≡ after.slots) same (r.variables ∙ sym p.same.variables);
      decides = λ s. own_push es e d s ∙ a.decides (own es d s) d s ∙ decides_at d t s o row after (own es d s) k (r.decides s) (p.methods s);
    }

-- an item of a list in which one was replaced
pub slice_get_set : {X : Type 0} (xs : List X) (k i : ℕ) (y x : X) → slice_get (set xs k y) i ≡ Some x → ((k ≢ i) × (slice_get xs i ≡ Some x)) ⊎ ((k ≡ i) × (y ≡ x))
slice_get_set [] k i y x h = cc
slice_get_set (z ∷ xs) zero zero y x h = inr (refl, cc)
slice_get_set (z ∷ xs) zero (suc i) y x h = inl (λ e. omega (arith, e), h)
slice_get_set (z ∷ xs) (suc k) zero y x h = inl (λ e. omega (arith, e), h)
slice_get_set (z ∷ xs) (suc k) (suc i) y x h = elim (slice_get_set xs k i y x h) [ inl w ↦ inl (λ e. w.0 (omega (arith, e)), w.1) | inr w ↦ inr (omega (arith, w.0), w.1) ]

pub rows_at : (es : List Edit) (e : Edit) (d : ClassId) (t : Selector) (o : Option MethodId) (rows : List ClassRow) (row after : ClassRow) → AreRows es rows → IsAt e (length es) d t o → kernel_method d t ≡ None → IsRow es d row → Puts row after t o → AreRows (es ++ e ∷ []) (set rows d.0 after)
rows_at es e d t o rows row after h a k r p = record {
  long = length-set rows d.0 after ∙ h.long ∙ sym (ap (λ (cs : List ClassDef). length cs) (classes_same es e a.same_classes));
  each = λ n x g. elim (slice_get_set rows d.0 n after x g) [
    | inl w ↦ row_other es e d t o a (class n) x w.0 (h.each n x w.1)
    | inr w ↦ subst (λ (y : ClassRow). IsRow (es ++ e ∷ []) (class n) y) w.1 (subst (λ (m : ℕ). IsRow (es ++ e ∷ []) (class m) after) w.0 (row_at es e d t o a k row after r p))
  ];
}
