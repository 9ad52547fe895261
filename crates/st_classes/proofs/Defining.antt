-- One class more.
use Rattle.std.proofs.Common.{arith, refl, ◌≡◌, ℕ, ◌+◌, ◌<◌, ◌≤◌, List, [], ◌∷◌, ◌++◌, Option, Some, None, false, nat_eq, nat_le, is_some, slice_get, ap, sym, ◌∙◌, length, subst, length-append, option_map, option_and_then, inl, inr, reverse}
use Rattle.std.proofs.lemmas.Bool.Decides.{nat_tests}
use Rattle.std.specs.List.{flat_map}
use Rattle.std.proofs.lemmas.Bool.{ltb-true, not-false}
use Rattle.st_classes.specs.declared.values.ClassId.{ClassId}
use Rattle.st_classes.specs.declared.values.Selector.{Selector}
use Rattle.st_classes.specs.declared.values.MethodId.{MethodId}
use Rattle.st_classes.specs.declared.edits.Edit.{Edit}
use Rattle.st_classes.specs.declared.edits.Edit.TheVariants.{Define}
use Rattle.st_classes.specs.declared.kernel.Kernel.{Kernel}
use Rattle.st_classes.specs.declared.kernel.Found.TheVariants.{User, Kernel as FoundKernel}
use Rattle.st_classes.specs.declared.class_rows.ClassRow.{ClassRow}
use Rattle.st_classes.specs.Kernel.{class, kernel_method}
use Rattle.st_classes.specs.Refusals.{first_of}
use Rattle.st_classes.specs.EditRules.{define_rules}
use Rattle.st_classes.specs.Classes.{ClassDef, classes, class_count, class_named, is_class, chain, own_slots, parent_in, chain_of}
use Rattle.st_classes.specs.Walks.{or_else}
use Rattle.st_classes.specs.ClassRows.{IsRow, IsUnder, row_method}
use Rattle.st_classes.specs.Tables.{IsKept, AreRows}
use Rattle.st_classes.proofs.LawLists.{slice_get_push, slice_get_old, slice_get_last}
use Rattle.st_classes.proofs.LawChains.{forest, classes_push}
use Rattle.st_classes.proofs.LawGrowing.{kernel_counted, lawful_with}
use Rattle.st_classes.proofs.Chains.{chain_old, slots_old, slots_new}
use Rattle.st_classes.proofs.Growing.{own_push, few_push, NoneApply, none_apply}

-- a superclass under which there is room for a class
pub record HasRoom (es : List Edit) (p : ClassId) : Type 0 where
  pub here : p.0 < class_count es
  pub shallow : length (chain es p) < 64
  pub few_classes : class_count es < 1024
  pub few : nat_le 4096 (length es) ≡ false

pub has_room : (es : List Edit) (name : List ℕ) (p : ClassId) (added : List (List ℕ)) → first_of (define_rules es name p added) ≡ None → HasRoom es p
has_room es name p added h =
    let r : NoneApply (define_rules es name p added) = none_apply (define_rules es name p added) h in
    record {
      here = ltb-true p.0 (class_count es) (not-false (is_class es p) r.0);
      shallow = below 64 (length (chain es p)) r.1.1.1.1.1.0;
      few_classes = below 1024 (class_count es) r.1.1.1.1.1.1.0;
      few = r.1.1.1.1.1.1.1.1.0;
    }
  where
    below : (a b : ℕ) → nat_le a b ≡ false → b < a
    below a b h = grind (arith, nat_tests)

pub no_such_class : (es : List Edit) (name : List ℕ) (p : ClassId) (added : List (List ℕ)) → first_of (define_rules es name p added) ≡ None → is_some (class_named es name) ≡ false
no_such_class es name p added h =
    let r : NoneApply (define_rules es name p added) = none_apply (define_rules es name p added) h in
    r.1.1.1.0

-- the class that an edit defines
abbrev pub new_def : List ℕ → ClassId → List (List ℕ) → ClassDef
new_def name p added = record { name = name; parent = Some p; slots = added }

pub kept_define : (es : List Edit) (name : List ℕ) (p : ClassId) (added : List (List ℕ)) → IsKept es → first_of (define_rules es name p added) ≡ None → IsKept (es ++ Define name p added ∷ [])
kept_define es name p added k h =
    let room : HasRoom es p = has_room es name p added h in
    let more : length (classes (es ++ Define name p added ∷ [])) ≡ length (classes es) + 1 = ap (λ (cs : List ClassDef). length cs) (classes_push es (Define name p added)) ∙ length-append (classes es) (new_def name p added ∷ []) in
    record {
      lawful = lawful_with es (Define name p added) k.lawful h;
      beyond = λ c s g. own_push es (Define name p added) c s ∙ k.beyond c s (omega (arith, more, g));
      few = few_push es (Define name p added) room.few;
      few_classes = omega (arith, more, room.few_classes);
    }

pub kernel_none : (c : ClassId) (s : Selector) → 8 ≤ c.0 → kernel_method c s ≡ None
kernel_none c s h =
    let e0 : nat_eq c.0 0 ≡ false = grind (arith, nat_tests) in
    let e1 : nat_eq c.0 1 ≡ false = grind (arith, nat_tests) in
    let e2 : nat_eq c.0 2 ≡ false = grind (arith, nat_tests) in
    let e3 : nat_eq c.0 3 ≡ false = grind (arith, nat_tests) in
    let e6 : nat_eq c.0 6 ≡ false = grind (arith, nat_tests) in
    let e7 : nat_eq c.0 7 ≡ false = grind (arith, nat_tests) in
    rw (e0, e1, e2, e3, e6, e7)

same_place : (c x : ClassId) (n : ℕ) → c.0 < n → c ≡ x → x.0 < n
same_place c x n h e = subst (λ (y : ClassId). y.0 < n) e h

-- a row of an old class stays
row_old : (es : List Edit) (name : List ℕ) (p : ClassId) (added : List (List ℕ)) → IsKept es → (c : ClassId) (row : ClassRow) → c.0 < class_count es → IsRow es c row → IsRow (es ++ Define name p added ∷ []) c row
row_old es name p added k c row l r =
    let cs : List ClassDef = classes es in
    let ds : List ClassDef = new_def name p added ∷ [] in
    let more : cs ++ ds ≡ classes (es ++ Define name p added ∷ []) = sym (classes_push es (Define name p added)) in
    let chained : chain_of (cs ++ ds) 64 (Some c) ≡ chain_of cs 64 (Some c) = chain_old cs ds (forest es k.lawful) 64 (Some c) (λ x e. same_place c x (length cs) l cc) in
    record {
      named = subst (λ (xs : List ClassDef). option_map (λ (x : ClassDef). x.name) (slice_get xs c.0) ≡ Some row.name) more (ap (option_map (λ (x : ClassDef). x.name)) (slice_get_old cs ds c.0 l) ∙ r.named);
      above = subst (λ (xs : List ClassDef). parent_in xs c ≡ row.superclass) more (ap (option_and_then (λ (x : ClassDef). x.parent)) (slice_get_old cs ds c.0 l) ∙ r.above);
      variables = subst (λ (xs : List ClassDef). flat_map (own_slots xs) (reverse (chain_of xs 64 (Some c))) ≡ row.slots) more (ap (λ (ys : List ClassId). flat_map (own_slots (cs ++ ds)) (reverse ys)) chained ∙ slots_old cs ds (forest es k.lawful) 64 (Some c) (λ x e. same_place c x (length cs) l cc) ∙ r.variables);
      decides = λ s. own_push es (Define name p added) c s ∙ r.decides s;
    }

own_none : (row : ClassRow) (c : ClassId) (s : Selector) (m : Option MethodId) (kernel : Option Kernel) → m ≡ None → kernel ≡ None → None ≡ or_else (option_map User m) (option_map FoundKernel kernel)
own_none row c s m kernel e f = rw (e, f)

-- the row of the new class
row_new : (es : List Edit) (name : List ℕ) (p : ClassId) (added : List (List ℕ)) → IsKept es → HasRoom es p → (above row : ClassRow) → IsRow es p above → IsUnder above row name p added → (c : ClassId) → c.0 ≡ class_count es → IsRow (es ++ Define name p added ∷ []) c row
row_new es name p added k room above row r u c n =
    let cs : List ClassDef = classes es in
    let d : ClassDef = new_def name p added in
    let more : cs ++ d ∷ [] ≡ classes (es ++ Define name p added ∷ []) = sym (classes_push es (Define name p added)) in
    let at : slice_get (cs ++ d ∷ []) c.0 ≡ Some d = ap (slice_get (cs ++ d ∷ [])) n ∙ slice_get_last cs d in
    record {
      named = subst (λ (xs : List ClassDef). option_map (λ (x : ClassDef). x.name) (slice_get xs c.0) ≡ Some row.name) more (ap (option_map (λ (x : ClassDef). x.name)) at ∙ ap (λ (x : List ℕ). Some x) (sym u.name));
      above = subst (λ (xs : List ClassDef). parent_in xs c ≡ row.superclass) more (ap (option_and_then (λ (x : ClassDef). x.parent)) at ∙ sym u.superclass);
      variables = subst (λ (xs : List ClassDef). flat_map (own_slots xs) (reverse (chain_of xs 64 (Some c))) ≡ row.slots) more (slots_new cs d c p (forest es k.lawful) refl room.here room.shallow n ∙ ap (λ (ys : List (List ℕ)). ys ++ added) r.variables ∙ sym u.variables);
      decides = λ s. own_push es (Define name p added) c s ∙ k.beyond c s (omega (arith, n)) ∙ own_none row c s (row_method row s) (kernel_method c s) (u.methods s) (kernel_none c s (omega (arith, n, kernel_counted es)));
    }

pub rows_define : (es : List Edit) (name : List ℕ) (p : ClassId) (added : List (List ℕ)) → IsKept es → first_of (define_rules es name p added) ≡ None → (rows : List ClassRow) → AreRows es rows → (above row : ClassRow) → IsRow es p above → IsUnder above row name p added → AreRows (es ++ Define name p added ∷ []) (rows ++ row ∷ [])
rows_define es name p added k h rows t above row r u =
    let more : length (classes (es ++ Define name p added ∷ [])) ≡ length (classes es) + 1 = ap (λ (cs : List ClassDef). length cs) (classes_push es (Define name p added)) ∙ length-append (classes es) (new_def name p added ∷ []) in
    record {
      long = omega (arith, more, t.long, length-append rows (row ∷ []));
      each = λ n x g. elim (slice_get_push rows row x n g) [
        | inl w ↦ row_old es name p added k (class n) x (omega (arith, w.0, t.long)) (t.each n x w.1)
        | inr w ↦ subst (λ (y : ClassRow). IsRow (es ++ Define name p added ∷ []) (class n) y) w.1 (row_new es name p added k (has_room es name p added h) above row r u (class n) (w.0 ∙ t.long))
      ];
    }
