-- An accepted edit of any kind.
use Rattle.std.proofs.Common.{refl, ◌≡◌, ℕ, List, [], ◌∷◌, ◌++◌, Option, Some, None, true, false, ap, sym, subst, ◌∙◌, length, map, option_map, is_some, cond, inl, inr}
use Rattle.std.specs.List.{position}
use Rattle.std.specs.Str.{bytes_eq}
use Rattle.std.proofs.lemmas.Bool.{not-false}
use Rattle.st_classes.specs.declared.values.ClassId.{ClassId}
use Rattle.st_classes.specs.declared.values.Selector.{Selector}
use Rattle.st_classes.specs.declared.methods.MethodParts.{MethodParts}
use Rattle.st_classes.specs.declared.edits.Edit.{Edit}
use Rattle.st_classes.specs.declared.edits.Edit.TheVariants.{Define, Install, Remove, Reparent}
use Rattle.st_classes.specs.declared.class_rows.ClassRow.{ClassRow}
use Rattle.st_classes.specs.Kernel.{class, kernel_method}
use Rattle.st_classes.specs.Refusals.{first_of}
use Rattle.st_classes.specs.EditRules.{edit_rules, define_rules, install_rules, remove_rules}
use Rattle.st_classes.specs.Classes.{ClassDef, classes_after, classes, class_count, is_class}
use Rattle.st_classes.specs.Walks.{method_id}
use Rattle.st_classes.specs.ClassIndexes.{Naming, named_in}
use Rattle.st_classes.specs.EditLists.{AllSound, IsSoundEdit}
use Rattle.st_classes.specs.Tables.{IsKept, AreRows, IsAt, IsNaming, IsTable, KeepsNames}
use Rattle.st_classes.specs.Depths.{AreDepths}
use Rattle.st_classes.proofs.LawLists.{slice_get_push}
use Rattle.st_classes.proofs.LawChains.{classes_push}
use Rattle.st_classes.proofs.Naming.{position-map}
use Rattle.st_classes.proofs.Reparenting.{names_kept}
use Rattle.st_classes.proofs.Deepening.{kept_moved}
use Rattle.st_classes.proofs.Growing.{kept_at, NoneApply, none_apply}
use Rattle.st_classes.proofs.Defining.{no_such_class, new_def, kept_define}
use Rattle.st_classes.proofs.Indexing.{naming_push, class_in}

none_from : {T : Type 0} (o : Option T) → is_some o ≡ false → o ≡ None
none_from None h = refl
none_from (Some x) h = cc

-- ---- a method

pub install_is_at : (n : ℕ) (c : ClassId) (m : MethodParts) → IsAt (Install c m) n c m.selector (Some (method_id n))
install_is_at n c m = record { same_classes = λ cs. refl; decides = λ found d s. refl }

pub remove_is_at : (n : ℕ) (c : ClassId) (s : Selector) → IsAt (Remove c s) n c s None
remove_is_at n c s = record { same_classes = λ cs. refl; decides = λ found d t. refl }

pub install_class : (es : List Edit) (c : ClassId) (s : Selector) → first_of (install_rules es c s) ≡ None → is_class es c ≡ true
install_class es c s h = let r : NoneApply (install_rules es c s) = none_apply (install_rules es c s) h in not-false (is_class es c) r.0

pub install_kernel : (es : List Edit) (c : ClassId) (s : Selector) → first_of (install_rules es c s) ≡ None → kernel_method c s ≡ None
install_kernel es c s h = let r : NoneApply (install_rules es c s) = none_apply (install_rules es c s) h in none_from (kernel_method c s) r.1.0

-- what may be removed may be installed
pub remove_install : (es : List Edit) (c : ClassId) (s : Selector) → first_of (remove_rules es c s) ≡ None → first_of (install_rules es c s) ≡ None
remove_install es c s h = let r : NoneApply (remove_rules es c s) = none_apply (remove_rules es c s) h in rw (r.0, r.1.0, r.1.1.1.0)

pub kept_push : (es : List Edit) (e : Edit) → IsKept es → first_of (edit_rules es e) ≡ None → IsKept (es ++ e ∷ [])
kept_push es (Define name p added) k h = kept_define es name p added k h
kept_push es (Install c m) k h =
    let r : NoneApply (install_rules es c m.selector) = none_apply (install_rules es c m.selector) h in
    kept_at es (Install c m) c m.selector (Some (method_id (length es))) k (install_is_at (length es) c m) h (not-false (is_class es c) r.0) r.1.1.0
kept_push es (Remove c s) k h =
    let r : NoneApply (remove_rules es c s) = none_apply (remove_rules es c s) h in
    kept_at es (Remove c s) c s None k (remove_is_at (length es) c s) h (not-false (is_class es c) r.0) r.1.1.1.0
kept_push es (Reparent c p) k h = kept_moved es c p k h

-- ---- names

-- the class of a name, by the names alone
class_by_names : (cs : List ClassDef) (q : List ℕ) → class_in cs q ≡ option_map class (position (bytes_eq q) (map (λ (d : ClassDef). d.name) cs))
class_by_names cs q = ap (option_map class) (sym (position-map (λ (d : ClassDef). d.name) (bytes_eq q) cs))

pub same_names_same_class : (cs ds : List ClassDef) (q : List ℕ) → map (λ (d : ClassDef). d.name) ds ≡ map (λ (d : ClassDef). d.name) cs → class_in ds q ≡ class_in cs q
same_names_same_class cs ds q h = class_by_names ds q ∙ ap (λ (names : List (List ℕ)). option_map class (position (bytes_eq q) names)) h ∙ sym (class_by_names cs q)

pub naming_same : (es : List Edit) (e : Edit) (naming : Naming) → KeepsNames e → IsNaming es naming → IsNaming (es ++ e ∷ []) naming
naming_same es e naming d h = λ q. h q ∙ sym (same_names_same_class (classes es) (classes_after (classes es) e) q (d (classes es))) ∙ ap (λ (cs : List ClassDef). class_in cs q) (sym (classes_push es e))

pub install_keeps_names : (c : ClassId) (m : MethodParts) → KeepsNames (Install c m)
install_keeps_names c m cs = refl

pub remove_keeps_names : (c : ClassId) (s : Selector) → KeepsNames (Remove c s)
remove_keeps_names c s cs = refl

pub reparent_keeps_names : (c p : ClassId) → KeepsNames (Reparent c p)
reparent_keeps_names c p cs = names_kept cs c.0 p

pub naming_define : (es : List Edit) (name : List ℕ) (p : ClassId) (added : List (List ℕ)) (old new : Naming) (n : ℕ) → first_of (define_rules es name p added) ≡ None → IsNaming es old → n ≡ class_count es → ((q : List ℕ) → named_in new q ≡ cond (bytes_eq q name) (Some (class n)) (named_in old q)) → IsNaming (es ++ Define name p added ∷ []) new
naming_define es name p added old new n h was count put =
    let here : (q : List ℕ) → named_in new q ≡ cond (bytes_eq q name) (Some (class (class_count es))) (named_in old q) = subst (λ (k : ℕ). (q : List ℕ) → named_in new q ≡ cond (bytes_eq q name) (Some (class k)) (named_in old q)) count put in
    λ q. naming_push (classes es) (new_def name p added) old new was (no_such_class es name p added h) here q ∙ ap (λ (cs : List ClassDef). class_in cs q) (sym (classes_push es (Define name p added)))

-- ---- the table

pub sound_push : (edits : List Edit) (e : Edit) → AllSound edits → IsSoundEdit e → AllSound (edits ++ e ∷ [])
sound_push edits e h s = λ place c m at. elim (slice_get_push edits e (Install c m) place at) [
  | inl w ↦ h place c m w.1
  | inr w ↦ subst IsSoundEdit w.1 s
]

pub table_push : (es edits : List Edit) (e : Edit) (rows : List ClassRow) (depths : List ℕ) (naming : Naming) → IsKept es → AllSound es → IsSoundEdit e → first_of (edit_rules es e) ≡ None → edits ≡ es ++ e ∷ [] → AreRows (es ++ e ∷ []) rows → AreDepths (es ++ e ∷ []) depths → IsNaming (es ++ e ∷ []) naming → IsTable edits rows depths naming
table_push es edits e rows depths naming k sound s h same shown deep named = subst (λ (ds : List Edit). IsTable ds rows depths naming) (sym same) (record { kept = kept_push es e k h; sound = sound_push es e sound s; shown = shown; deep = deep; named = named })
