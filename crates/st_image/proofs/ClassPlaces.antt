-- A class is found by its name.
use Rattle.std.proofs.Common.{arith, ◌≡◌, ℕ, zero, suc, ◌<◌, map, Bool, List, [], ◌∷◌, ◌++◌, length, length-append, Option, Some, None, option_map, slice_get, get_or, is_some, false, cond, inl, inr, refl, sym, ap, ap₂, subst, ◌∙◌, unwrap_or}
use Rattle.std.specs.List.{position}
use Rattle.std.specs.Option.{option_or}
use Rattle.std.specs.Str.{bytes_eq}
use Rattle.std.proofs.lemmas.Slice.Eq.{bytes_eq-Decides}
use Rattle.std.proofs.lemmas.Option.{slice_get-get_or}
use Rattle.st_classes.specs.declared.values.ClassId.{ClassId}
use Rattle.st_classes.specs.declared.edits.Edit.{Edit}
use Rattle.st_classes.specs.declared.edits.Edit.TheVariants.{Define, Install, Remove, Reparent}
use Rattle.st_classes.specs.Kernel.{class}
use Rattle.st_classes.specs.Refusals.{first_of}
use Rattle.st_classes.specs.Classes.{ClassDef, kernel_classes, reparented, classes, classes_after, classes_from, class_count, class_name, class_named}
use Rattle.st_classes.specs.EditRules.{edit_rules}
use Rattle.st_classes.proofs.Indexing.{position_push}
use Rattle.st_classes.proofs.LawLists.{slice_get_old, slice_get_push}
use Rattle.st_classes.proofs.LawChains.{classes_append, classes_push}
use Rattle.st_classes.proofs.Naming.{position-map}
use Rattle.st_classes.proofs.Reparenting.{name_kept, names_kept, reparented_long}
use Rattle.st_classes.proofs.Defining.{no_such_class, new_def}

-- each class is the first of its name
abbrev pub NamedOnce : List ClassDef → Type 0
NamedOnce cs = (n : ℕ) (d : ClassDef) → slice_get cs n ≡ Some d → position (λ x. bytes_eq d.name x.name) cs ≡ Some n

-- ---- the kernel's classes

is_place : (cs : List ClassDef) (n : ℕ) (c d : ClassDef) → Some c ≡ Some d → position (λ x. bytes_eq c.name x.name) cs ≡ Some n → position (λ x. bytes_eq d.name x.name) cs ≡ Some n
is_place cs n c d e h = let s : c ≡ d = cc in subst (λ (y : ClassDef). position (λ x. bytes_eq y.name x.name) cs ≡ Some n) s h

pub kernel_once : NamedOnce kernel_classes
kernel_once zero d at = is_place kernel_classes 0 _ d at refl
kernel_once (suc zero) d at = is_place kernel_classes 1 _ d at refl
kernel_once (suc (suc zero)) d at = is_place kernel_classes 2 _ d at refl
kernel_once (suc (suc (suc zero))) d at = is_place kernel_classes 3 _ d at refl
kernel_once (suc (suc (suc (suc zero)))) d at = is_place kernel_classes 4 _ d at refl
kernel_once (suc (suc (suc (suc (suc zero))))) d at = is_place kernel_classes 5 _ d at refl
kernel_once (suc (suc (suc (suc (suc (suc zero)))))) d at = is_place kernel_classes 6 _ d at refl
kernel_once (suc (suc (suc (suc (suc (suc (suc zero))))))) d at = is_place kernel_classes 7 _ d at refl
kernel_once (suc (suc (suc (suc (suc (suc (suc (suc n)))))))) d at = cc

-- ---- one edit more

no_place : (o : Option ℕ) → is_some (option_map class o) ≡ false → o ≡ None
no_place None h = refl
no_place (Some n) h = cc

once_push : (cs : List ClassDef) (d : ClassDef) → NamedOnce cs → position (λ x. bytes_eq d.name x.name) cs ≡ None → NamedOnce (cs ++ d ∷ [])
once_push cs d once none = λ n e at. elim (slice_get_push cs d e n at) [
  | inl w ↦ position_push (λ x. bytes_eq e.name x.name) cs d ∙ ap (λ (o : Option ℕ). option_or o (cond (bytes_eq e.name d.name) (Some (length cs)) None)) (once n e w.1)
  | inr w ↦
      let last : position (λ x. bytes_eq d.name x.name) (cs ++ d ∷ []) ≡ Some (length cs) = position_push (λ x. bytes_eq d.name x.name) cs d ∙ ap₂ (λ (o : Option ℕ) (b : Bool). option_or o (cond b (Some (length cs)) None)) none ((bytes_eq-Decides d.name d.name).1 refl) in
      subst (λ (y : ClassDef). position (λ x. bytes_eq y.name x.name) (cs ++ d ∷ []) ≡ Some n) w.1 (last ∙ ap (λ (k : ℕ). Some k) (sym w.0))
]

-- the place of a name, by the names alone
place_by_names : (cs : List ClassDef) (t : List ℕ) → position (λ x. bytes_eq t x.name) cs ≡ position (bytes_eq t) (map (λ d. d.name) cs)
place_by_names cs t = sym (position-map (λ (d : ClassDef). d.name) (bytes_eq t) cs)

named_at : (o : Option ClassDef) (t : List ℕ) → option_map (λ d. d.name) o ≡ Some t → (d : ClassDef) × (o ≡ Some d) × (d.name ≡ t)
named_at None t h = cc
named_at (Some d) t h = (d, refl, cc)

once_reparented : (cs : List ClassDef) (k : ℕ) (p : ClassId) → NamedOnce cs → NamedOnce (reparented cs k p)
once_reparented cs k p once = λ n e at.
    let was = named_at (slice_get cs n) e.name (sym (name_kept cs k p n) ∙ ap (option_map (λ (d : ClassDef). d.name)) at) in
    place_by_names (reparented cs k p) e.name
    ∙ ap (position (bytes_eq e.name)) (names_kept cs k p)
    ∙ sym (place_by_names cs e.name)
    ∙ ap (λ (t : List ℕ). position (λ x. bytes_eq t x.name) cs) (sym was.2)
    ∙ once n was.0 was.1

pub once_after : (edits : List Edit) (e : Edit) → first_of (edit_rules edits e) ≡ None → NamedOnce (classes edits) → NamedOnce (classes (edits ++ e ∷ []))
once_after edits (Define name parent slots) h once = subst NamedOnce (sym (classes_push edits (Define name parent slots))) (once_push (classes edits) (new_def name parent slots) once (no_place (position (λ x. bytes_eq name x.name) (classes edits)) (no_such_class edits name parent slots h)))
once_after edits (Install c m) h once = subst NamedOnce (sym (classes_push edits (Install c m))) once
once_after edits (Remove c s) h once = subst NamedOnce (sym (classes_push edits (Remove c s))) once
once_after edits (Reparent c p) h once = subst NamedOnce (sym (classes_push edits (Reparent c p))) (once_reparented (classes edits) c.0 p once)

-- ---- found again

-- a class keeps its name with an edit more
name_after : (cs : List ClassDef) (e : Edit) (n : ℕ) → n < length cs → option_map (λ d. d.name) (slice_get (classes_after cs e) n) ≡ option_map (λ d. d.name) (slice_get cs n)
name_after cs (Define name parent slots) n h = ap (option_map (λ d. d.name)) (slice_get_old cs (new_def name parent slots ∷ []) n h)
name_after cs (Install c m) n h = refl
name_after cs (Remove c s) n h = refl
name_after cs (Reparent c p) n h = name_kept cs c.0 p n

within_after : (cs : List ClassDef) (e : Edit) (n : ℕ) → n < length cs → n < length (classes_after cs e)
within_after cs (Define name parent slots) n h = omega (arith, h, length-append cs (new_def name parent slots ∷ []))
within_after cs (Install c m) n h = h
within_after cs (Remove c s) n h = h
within_after cs (Reparent c p) n h = omega (arith, h, reparented_long cs c.0 p)

-- and with all later edits
name_from : (cs : List ClassDef) (es : List Edit) (n : ℕ) → n < length cs → option_map (λ d. d.name) (slice_get (classes_from cs es) n) ≡ option_map (λ d. d.name) (slice_get cs n)
name_from cs [] n h = refl
name_from cs (e ∷ es) n h = name_from (classes_after cs e) es n (within_after cs e n h) ∙ name_after cs e n h

-- the class of that name is the one at the number
found_there : (cs : List ClassDef) (n : ℕ) → n < length cs → NamedOnce cs → position (λ x. bytes_eq (unwrap_or (option_map (λ d. d.name) (slice_get cs n)) []) x.name) cs ≡ Some n
found_there cs n h once =
    let d : ClassDef = get_or cs n (new_def [] (class 0) []) in
    let at : slice_get cs n ≡ Some d = slice_get-get_or cs n (new_def [] (class 0) []) h in
    ap (λ (o : Option ClassDef). position (λ x. bytes_eq (unwrap_or (option_map (λ y. y.name) o) []) x.name) cs) at ∙ once n d at

-- a class is found by the name that it has among later edits
pub class_again : (edits more : List Edit) (c : ClassId) → c.0 < class_count edits → NamedOnce (classes edits) → class_named edits (unwrap_or (class_name (edits ++ more) c) []) ≡ Some c
class_again edits more c h once =
    ap (λ (cs : List ClassDef). class_named edits (unwrap_or (option_map (λ d. d.name) (slice_get cs c.0)) [])) (classes_append edits more)
    ∙ ap (λ (o : Option (List ℕ)). class_named edits (unwrap_or o [])) (name_from (classes edits) more c.0 h)
    ∙ ap (option_map class) (found_there (classes edits) c.0 h once)
