-- A class with another superclass in a table: the rows, and how deep the classes stand.
use Rattle.std.proofs.Common.{arith, refl, ◌≡◌, ◌≢◌, ℕ, ◌+◌, ◌<◌, List, [], ◌∷◌, ◌++◌, Some, None, slice_get, zero, suc, ap, sym, ◌∙◌, length, length-append, subst, option_map, inl, inr}
use Rattle.std.proofs.Math.ListN.{set, length-set}
use Rattle.std.proofs.lemmas.Option.{slice_get_within}
use Rattle.st_classes.specs.declared.values.ClassId.{ClassId}
use Rattle.st_classes.specs.declared.values.Selector.{Selector}
use Rattle.st_classes.specs.declared.values.MethodId.{MethodId}
use Rattle.st_classes.specs.declared.edits.Edit.{Edit}
use Rattle.st_classes.specs.declared.edits.Edit.TheVariants.{Define, Reparent}
use Rattle.st_classes.specs.declared.kernel.Found.TheVariants.{User, Kernel as FoundKernel}
use Rattle.st_classes.specs.declared.class_rows.ClassRow.{ClassRow}
use Rattle.st_classes.specs.Kernel.{class, kernel_method}
use Rattle.st_classes.specs.Refusals.{first_of}
use Rattle.st_classes.specs.EditRules.{define_rules, edit_rules}
use Rattle.st_classes.specs.Classes.{IsForest, ClassDef, classes_after, reparented, classes, class_count, chain, chain_of, parent_in}
use Rattle.st_classes.specs.Walks.{or_else}
use Rattle.st_classes.specs.ClassRows.{IsRow, IsMoved, method_for}
use Rattle.st_classes.specs.Tables.{IsKept, AreRows}
use Rattle.st_classes.specs.Depths.{AreDepths, IsDeep, kernel_depths}
use Rattle.st_classes.proofs.LawLists.{slice_get_push}
use Rattle.st_classes.proofs.Chains.{chain_new, chain_old}
use Rattle.st_classes.proofs.LawChains.{MayMove, classes_push, forest, may_move, moved_same}
use Rattle.st_classes.proofs.LawGrowing.{lawful_with}
use Rattle.st_classes.proofs.Reparenting.{forest_moved, name_kept, parent_here, parent_other, reparented_long, slots_in, slots_moved}
use Rattle.st_classes.proofs.WholeChains.{deep_few, deep_long}
use Rattle.st_classes.proofs.Growing.{classes_same, few_push, own_push, slice_get_set}
use Rattle.st_classes.proofs.Defining.{has_room, new_def}

-- ---- the table

count_same : (es : List Edit) (c p : ClassId) → class_count (es ++ Reparent c p ∷ []) ≡ class_count es
count_same es c p = ap (λ (cs : List ClassDef). length cs) (classes_push es (Reparent c p)) ∙ reparented_long (classes es) c.0 p

pub kept_moved : (es : List Edit) (c p : ClassId) → IsKept es → first_of (edit_rules es (Reparent c p)) ≡ None → IsKept (es ++ Reparent c p ∷ [])
kept_moved es c p k h = record {
  lawful = lawful_with es (Reparent c p) k.lawful h;
  beyond = λ d s g. own_push es (Reparent c p) d s ∙ k.beyond d s (omega (arith, g, count_same es c p));
  few = few_push es (Reparent c p) (may_move es c p h).few;
  few_classes = omega (arith, k.few_classes, count_same es c p);
}

-- ---- the rows

slots_same : (es : List Edit) (c p d : ClassId) → IsKept es → MayMove es c p → slots_in (reparented (classes es) c.0 p) d ≡ slots_in (classes es) d
slots_same es c p d k m =
    let f = forest es k.lawful in
    slots_moved (classes es) c p f (forest_moved (classes es) c p f m.here m.there m.shallow) m.here (moved_same es c p m) d

-- the row of another class
row_other : (es : List Edit) (c p d : ClassId) (row : ClassRow) → IsKept es → MayMove es c p → d.0 ≢ c.0 → IsRow es d row → IsRow (es ++ Reparent c p ∷ []) d row
row_other es c p d row k m apart r =
    let now : reparented (classes es) c.0 p ≡ classes (es ++ Reparent c p ∷ []) = sym (classes_push es (Reparent c p)) in
    record {
      named = subst (λ (cs : List ClassDef). option_map (λ (x : ClassDef). x.name) (slice_get cs d.0) ≡ Some row.name) now (name_kept (classes es) c.0 p d.0 ∙ r.named);
      above = subst (λ (cs : List ClassDef). parent_in cs d ≡ row.superclass) now (parent_other (classes es) c.0 p d apart ∙ r.above);
      variables = subst (λ (cs : List ClassDef). slots_in cs d ≡ row.slots) now (slots_same es c p d k m ∙ r.variables);
      decides = λ s. own_push es (Reparent c p) d s ∙ r.decides s;
    }

-- the row of the class itself
row_moved : (es : List Edit) (c p : ClassId) (row after : ClassRow) → IsKept es → MayMove es c p → IsRow es c row → IsMoved row after p → IsRow (es ++ Reparent c p ∷ []) c after
row_moved es c p row after k m r a =
    let now : reparented (classes es) c.0 p ≡ classes (es ++ Reparent c p ∷ []) = sym (classes_push es (Reparent c p)) in
    record {
      named = subst (λ (cs : List ClassDef). option_map (λ (x : ClassDef). x.name) (slice_get cs c.0) ≡ Some after.name) now (name_kept (classes es) c.0 p c.0 ∙ r.named ∙ ap (λ (x : List ℕ). Some x) (sym a.name));
      above = subst (λ (cs : List ClassDef). parent_in cs c ≡ after.superclass) now (parent_here (classes es) c p m.here ∙ sym a.superclass);
      variables = subst (λ (cs : List ClassDef). slots_in cs c ≡ after.slots) now (slots_same es c p c k m ∙ r.variables ∙ sym a.variables);
      decides = λ s. own_push es (Reparent c p) c s ∙ r.decides s ∙ ap (λ (methods : List (Selector × MethodId)). or_else (option_map User (method_for methods s)) (option_map FoundKernel (kernel_method c s))) (sym a.methods);
    }

pub rows_moved : (es : List Edit) (c p : ClassId) (rows : List ClassRow) (row after : ClassRow) → IsKept es → first_of (edit_rules es (Reparent c p)) ≡ None → AreRows es rows → IsRow es c row → IsMoved row after p → AreRows (es ++ Reparent c p ∷ []) (set rows c.0 after)
rows_moved es c p rows row after k h t r a =
    let m = may_move es c p h in
    record {
      long = length-set rows c.0 after ∙ t.long ∙ sym (count_same es c p);
      each = λ n x g. elim (slice_get_set rows c.0 n after x g) [
        | inl w ↦ row_other es c p (class n) x k m (λ e. w.0 (sym e)) (t.each n x w.1)
        | inr w ↦ subst (λ (y : ClassRow). IsRow (es ++ Reparent c p ∷ []) (class n) y) w.1 (subst (λ (i : ℕ). IsRow (es ++ Reparent c p ∷ []) (class i) after) w.0 (row_moved es c p row after k m r a))
      ];
    }

-- ---- the depths

pub depths_kernel : AreDepths [] kernel_depths
depths_kernel = record { long = refl; each = at }
  where
    at : (n depth : ℕ) → slice_get kernel_depths n ≡ Some depth → length (chain [] (class n)) ≡ depth
    at zero depth e = cc
    at (suc zero) depth e = cc
    at (suc (suc zero)) depth e = cc
    at (suc (suc (suc zero))) depth e = cc
    at (suc (suc (suc (suc zero)))) depth e = cc
    at (suc (suc (suc (suc (suc zero))))) depth e = cc
    at (suc (suc (suc (suc (suc (suc zero)))))) depth e = cc
    at (suc (suc (suc (suc (suc (suc (suc zero))))))) depth e = cc
    at (suc (suc (suc (suc (suc (suc (suc (suc n)))))))) depth e = cc

pub depths_same : (es : List Edit) (e : Edit) (depths : List ℕ) → ((cs : List ClassDef) → classes_after cs e ≡ cs) → AreDepths es depths → AreDepths (es ++ e ∷ []) depths
depths_same es e depths h d =
    let same : classes es ≡ classes (es ++ e ∷ []) = sym (classes_same es e h) in
    record {
      long = d.long ∙ ap (λ (cs : List ClassDef). length cs) same;
      each = λ n depth g. subst (λ (cs : List ClassDef). length (chain_of cs 64 (Some (class n))) ≡ depth) same (d.each n depth g);
    }

-- the depth at a class's number is the class's
pub depth_read : (edits : List Edit) (depths : List ℕ) (c : ClassId) (depth : ℕ) → AreDepths edits depths → slice_get depths c.0 ≡ Some depth → length (chain edits c) ≡ depth
depth_read edits depths c depth d e = d.each c.0 depth e

pub depths_define : (es : List Edit) (name : List ℕ) (p : ClassId) (added : List (List ℕ)) (depths : List ℕ) (depth : ℕ) → IsKept es → first_of (define_rules es name p added) ≡ None → AreDepths es depths → depth ≡ length (chain es p) → AreDepths (es ++ Define name p added ∷ []) (depths ++ (depth + 1) ∷ [])
depths_define es name p added depths depth k h t is =
    let cs : List ClassDef = classes es in
    let d : ClassDef = new_def name p added in
    let more : cs ++ d ∷ [] ≡ classes (es ++ Define name p added ∷ []) = sym (classes_push es (Define name p added)) in
    let room = has_room es name p added h in
    let f : IsForest cs = forest es k.lawful in
    record {
      long = omega (arith, t.long, length-append depths ((depth + 1) ∷ []), length-append cs (d ∷ []), ap (λ (xs : List ClassDef). length xs) more);
      each = λ n x g. subst (λ (xs : List ClassDef). length (chain_of xs 64 (Some (class n))) ≡ x) more (elim (slice_get_push depths (depth + 1) x n g) [
        | inl w ↦ ap (λ (ys : List ClassId). length ys) (chain_old cs (d ∷ []) f 64 (Some (class n)) (λ y e. let same : class n ≡ y = cc in subst (λ (z : ClassId). z.0 < length cs) same (omega (arith, w.0, t.long)))) ∙ t.each n x w.1
        | inr w ↦ ap (λ (ys : List ClassId). length ys) (chain_new cs d (class n) p f refl room.here room.shallow (w.0 ∙ t.long)) ∙ omega (arith, is, w.1)
      ]);
    }

-- depths of the classes up to a number, once a class is under another superclass
pub record DepthsTo (cs : List ClassDef) (n : ℕ) (depths : List ℕ) : Type 0 where
  pub long : length depths ≡ n
  pub each : (k depth : ℕ) → slice_get depths k ≡ Some depth → IsDeep cs (class k) depth

pub depths_none : (cs : List ClassDef) → DepthsTo cs 0 []
depths_none cs = record { long = refl; each = λ k depth e. cc }

pub depths_next : (cs : List ClassDef) (n : ℕ) (depths : List ℕ) (depth : ℕ) → DepthsTo cs n depths → IsDeep cs (class n) depth → DepthsTo cs (n + 1) (depths ++ depth ∷ [])
depths_next cs n depths depth t h = record {
  long = omega (arith, t.long, length-append depths (depth ∷ []));
  each = λ k x g. elim (slice_get_push depths depth x k g) [
    | inl w ↦ t.each k x w.1
    | inr w ↦ subst (λ (y : ℕ). IsDeep cs (class k) y) w.1 (subst (λ (i : ℕ). IsDeep cs (class i) depth) (sym (w.0 ∙ t.long)) h)
  ];
}

-- those of all classes are the table's
pub depths_moved : (es : List Edit) (c p : ClassId) (depths : List ℕ) → IsKept es → first_of (edit_rules es (Reparent c p)) ≡ None → DepthsTo (reparented (classes es) c.0 p) (class_count es) depths → AreDepths (es ++ Reparent c p ∷ []) depths
depths_moved es c p depths k h t =
    let m = may_move es c p h in
    let cs : List ClassDef = reparented (classes es) c.0 p in
    let now : cs ≡ classes (es ++ Reparent c p ∷ []) = sym (classes_push es (Reparent c p)) in
    record {
      long = t.long ∙ sym (count_same es c p);
      each = λ n depth g. subst (λ (xs : List ClassDef). length (chain_of xs 64 (Some (class n))) ≡ depth) now (deep_long cs (class n) depth 64 (t.each n depth g) (deep_few cs (class n) depth m.shallow (omega (arith, slice_get_within depths n depth g, t.long, reparented_long (classes es) c.0 p)) (t.each n depth g)));
    }
