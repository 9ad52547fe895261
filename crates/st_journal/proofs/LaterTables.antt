-- Entries are told alike by more names and a longer class table.
use Rattle.std.proofs.Common.{arith, ◌≡◌, ◌<◌, ◌≤◌, ◌++◌, ℕ, zero, suc, true, List, [], ◌∷◌, Option, Some, None, length, take, slice_get, take-suc, refl, sym, ap, subst, ◌∙◌}
use Rattle.std.specs.Prelude.{All, codes, map, option_map, position, unwrap_or}
use Rattle.std.specs.Str.{bytes_eq}
use Rattle.std.proofs.lemmas.Bool.{ltb-true}
use Rattle.std.proofs.lemmas.List.{take_all}
use Rattle.std.proofs.lemmas.List.Quantifiers.{position-Some}
use Rattle.std.proofs.lemmas.Slice.Eq.{bytes_eq-Decides}
use Rattle.std.proofs.lemmas.Option.{get_or_from_slice_get, slice_get-get_or}
use Rattle.serde_json.specs.Data.{Data, string}
use Rattle.st_classes.specs.declared.edits.Edit.{Edit}
use Rattle.st_classes.specs.declared.edits.Edit.TheVariants.{Reparent}
use Rattle.st_classes.specs.declared.values.ClassId.{ClassId}
use Rattle.st_classes.specs.declared.values.Selector.{Selector}
use Rattle.st_classes.specs.declared.values.Value.{Value}
use Rattle.st_classes.specs.declared.values.Value.TheVariants as value
use Rattle.st_classes.specs.Classes.{ClassDef, class_count, classes, is_class}
use Rattle.st_classes.specs.EditLists.{AreLawful}
use Rattle.st_classes.specs.Kernel.{class}
use Rattle.st_classes.proofs.Defining.{new_def}
use Rattle.st_classes.proofs.LawLists.{slice_get_old}
use Rattle.st_image.specs.Loading.{class_text, selector_text}
use Rattle.st_image.proofs.ClassPlaces.{NamedOnce, class_again, kernel_once, once_after}
use Rattle.st_wire.specs.Replies.{only}
use Rattle.st_file.specs.Named.{IsNamed, ValueIsNamed}
use Rattle.st_file.specs.ValueJson.{value_json}
use Rattle.st_file.proofs.ValueForms.{class_is_again}
use Rattle.st_journal.specs.declared.entries.Entry.TheVariants as entry
use Rattle.st_journal.specs.EntryForms.{ToldLater}

-- ---- each class of a lawful table is the first of its name

once_more : (edits : List Edit) (k : ℕ) (o : Option Edit) → slice_get edits k ≡ o → AreLawful edits → k < length edits → NamedOnce (classes (take k edits)) → NamedOnce (classes (take (suc k) edits))
once_more edits k None at lawful h before = absurd (cc (sym at ∙ slice_get-get_or edits k (Reparent (class 0) (class 0)) h))
once_more edits k (Some e) at lawful h before =
    let last : take (suc k) edits ≡ take k edits ++ e ∷ [] = take-suc edits k e h ∙ ap (λ (x : Edit). take k edits ++ x ∷ []) (get_or_from_slice_get edits k e e at) in
    subst (λ (es : List Edit). NamedOnce (classes es)) (sym last) (once_after (take k edits) e (lawful k e at) before)

once_through : (edits : List Edit) (k : ℕ) → AreLawful edits → k ≤ length edits → NamedOnce (classes (take k edits))
once_through edits zero lawful h = kernel_once
once_through edits (suc k) lawful h = once_more edits k (slice_get edits k) refl lawful (omega (arith, h)) (once_through edits k lawful (omega (arith, h)))

once_all : (edits : List Edit) → AreLawful edits → NamedOnce (classes edits)
once_all edits lawful = subst (λ (es : List Edit). NamedOnce (classes es)) (take_all (length edits) edits (omega arith)) (once_through edits (length edits) lawful (omega arith))

-- ---- names of classes

place_of_class : (o : Option ℕ) (c : ClassId) → option_map class o ≡ Some c → o ≡ Some c.0
place_of_class None c e = cc
place_of_class (Some n) c e = let is : class n ≡ c = cc in ap (λ (d : ClassId). Some d.0) is

one_name : (cs : List ClassDef) (text : List ℕ) (c : ClassId) (d : ClassDef) → option_map class (position (λ (x : ClassDef). bytes_eq text x.name) cs) ≡ Some c → (x : ClassDef) × (slice_get cs c.0 ≡ Some x) × (text ≡ x.name)
one_name cs text c d e =
    let p = position-Some (λ (x : ClassDef). bytes_eq text x.name) cs c.0 d (place_of_class (position (λ (x : ClassDef). bytes_eq text x.name) cs) c e) in
    (_, slice_get-get_or cs c.0 d p.0, (bytes_eq-Decides text _).0 p.1)

class_stays : (edits later : List Edit) (c : ClassId) → AreLawful edits → is_class edits c ≡ true → class_text (edits ++ later) c ≡ class_text edits c
class_stays edits later c lawful h =
    let d : ClassDef = new_def [] (class 0) [] in
    let long = one_name (classes edits) (class_text (edits ++ later) c) c d (class_again edits later c (ltb-true c.0 (class_count edits) h) (once_all edits lawful)) in
    let short = one_name (classes edits) (class_text edits c) c d (class_is_again edits c lawful h) in
    let same : Some long.0 ≡ Some short.0 = sym long.1 ∙ short.1 in
    let is : long.0 ≡ short.0 = cc in
    long.2 ∙ ap (λ (x : ClassDef). x.name) is ∙ sym short.2

selector_stays : (names more : List (List ℕ)) (s : Selector) → IsNamed names s → selector_text (names ++ more) s ≡ selector_text names s
selector_stays names more s h = ap (λ (o : Option (List ℕ)). unwrap_or o []) (slice_get_old names more s.0 h)

-- ---- values and messages

value_stays : (names more : List (List ℕ)) (edits later : List Edit) (v : Value) → AreLawful edits → ValueIsNamed names edits v → value_json (names ++ more) (edits ++ later) v ≡ value_json names edits v
value_stays names more edits later (value.Int z) lawful h = refl
value_stays names more edits later (value.Bool b) lawful h = refl
value_stays names more edits later value.Nil lawful h = refl
value_stays names more edits later (value.Sym s) lawful h = ap (λ (t : List ℕ). only (codes "sym") (string t)) (selector_stays names more s h)
value_stays names more edits later (value.Class c) lawful h = ap (λ (t : List ℕ). only (codes "class") (string t)) (class_stays edits later c lawful h)
value_stays names more edits later (value.Actor a) lawful h = refl
value_stays names more edits later (value.Local n) lawful h = refl

maps_same : (f g : Value → Data) (P : Value → Type 0) → ((v : Value) → P v → f v ≡ g v) → (vs : List Value) → All P vs → map f vs ≡ map g vs
maps_same f g P same [] all = refl
maps_same f g P same (v ∷ vs) all =
    ap (λ (d : Data). d ∷ map f vs) (same v (all 0 v (omega arith)))
    ∙ ap (λ (ds : List Data). g v ∷ ds) (maps_same f g P same vs (λ k d h. all (suc k) d (omega (arith, h))))

values_stay : (names more : List (List ℕ)) (edits later : List Edit) (vs : List Value) → AreLawful edits → All (ValueIsNamed names edits) vs → map (value_json (names ++ more) (edits ++ later)) vs ≡ map (value_json names edits) vs
values_stay names more edits later vs lawful all = maps_same (value_json (names ++ more) (edits ++ later)) (value_json names edits) (ValueIsNamed names edits) (λ v h. value_stays names more edits later v lawful h) vs all

-- ---- entries

pub told_later : ToldLater
told_later names more edits later (entry.Name text) lawful h = refl
told_later names more edits later (entry.Define name parent slots) lawful h = rw (class_stays edits later parent lawful h) refl
told_later names more edits later (entry.Install c source) lawful h = rw (class_stays edits later c lawful h) refl
told_later names more edits later (entry.Remove c s) lawful h = rw (class_stays edits later c lawful h.0, selector_stays names more s h.1) refl
told_later names more edits later (entry.Reparent c p) lawful h = rw (class_stays edits later c lawful h.0, class_stays edits later p lawful h.1) refl
told_later names more edits later (entry.Created c) lawful h = rw (class_stays edits later c lawful h) refl
told_later names more edits later (entry.Posted a m) lawful h = rw (values_stay names more edits later m.args lawful h.args, selector_stays names more m.selector h.selector) refl
told_later names more edits later (entry.Closed a) lawful h = refl
told_later names more edits later (entry.Begun a) lawful h = refl
told_later names more edits later (entry.Ran a n) lawful h = refl
told_later names more edits later entry.Checkpoint lawful h = refl
