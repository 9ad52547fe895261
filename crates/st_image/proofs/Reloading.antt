-- A table that is told as texts is loaded again.
use Rattle.std.proofs.Common.{arith, ◌≡◌, ℕ, ◌+◌, ◌<◌, ◌≤◌, Bool, true, false, List, [], ◌∷◌, ◌++◌, ◌&&◌, ◌==◌, length, map, drop, take-append-drop, Option, Some, None, slice_get, is_some, unwrap_or, nat_le, refl, sym, ap, subst, ◌∙◌, length-append, not, ltb-true}
use Rattle.std.proofs.lemmas.List.{append_assoc, append-nil}
use Rattle.std.proofs.lemmas.Bool.{and_parts, not-false}
use Rattle.std.proofs.lemmas.Bool.Decides.{nat_tests}
use Rattle.std.proofs.lemmas.Option.{slice_get_within}
use Rattle.std.proofs.lemmas.Slice.Eq.{bytes_eq-Decides}
use Rattle.std.specs.List.{list_all}
use Rattle.std.specs.Str.{bytes_eq}
use Rattle.st_classes.specs.declared.values.ClassId.{ClassId}
use Rattle.st_classes.specs.declared.values.MethodId.{MethodId}
use Rattle.st_classes.specs.declared.values.Selector.{Selector}
use Rattle.st_classes.specs.declared.edits.Edit.{Edit}
use Rattle.st_classes.specs.declared.edits.Edit.TheVariants.{Define, Install, Remove, Reparent}
use Rattle.st_classes.specs.declared.kernel.Found.{Found}
use Rattle.st_classes.specs.declared.kernel.Found.TheVariants.{User, Kernel as FoundKernel}
use Rattle.st_classes.specs.declared.methods.MethodParts.{MethodParts}
use Rattle.st_classes.specs.declared.refusals.Refusal.TheVariants.{UnknownClass, NoSuchMethod}
use Rattle.st_classes.specs.Refusals.{first_of}
use Rattle.st_classes.specs.Kernel.{kernel_selectors}
use Rattle.st_classes.specs.Names.{AreNames, is_name}
use Rattle.st_classes.specs.Selectors.{is_selector}
use Rattle.st_classes.specs.Classes.{class_count, class_named, classes, is_class, slots}
use Rattle.st_classes.specs.EditLists.{AreLawful, AllSuit}
use Rattle.st_classes.specs.EditRules.{edit_rules}
use Rattle.st_classes.specs.LookupLaws.{Stands}
use Rattle.st_classes.specs.MethodSuits.{arity_at, instruction_suits, is_number, suits}
use Rattle.st_classes.specs.Walks.{own, user_method}
use Rattle.st_classes.proofs.LawChains.{may_move}
use Rattle.st_classes.proofs.LawLists.{no_rule, slice_get_here, slice_get_kept, take_whole}
use Rattle.st_classes.proofs.LawLookup.{own_stands, stands_at}
use Rattle.st_compile.proofs.Places.{first, at-first, place-of_name}
use Rattle.st_image.specs.CompiledEdits.{AllCompiled, IsCompiledFrom}
use Rattle.st_image.specs.Loading.{InstallsFrom, LoadsAll, LoadsEdit, LoadsName, TablesReload, class_text, edit_text, selector_text}
use Rattle.st_image.proofs.ClassPlaces.{NamedOnce, class_again, kernel_once, once_after}
use Rattle.st_image.proofs.CompiledEdits.{needs_none, rules_none}
use Rattle.st_image.proofs.LoadedNames.{made, no_first}

-- ---- names

-- a name stands at a place
name_stands : (names : List (List ℕ)) (text : List ℕ) → is_name names text ≡ true → (n : ℕ) × (slice_get names n ≡ Some text)
name_stands names text h = by (first (bytes_eq text) names) refl
  where
    by : (o : Option ℕ) → first (bytes_eq text) names ≡ o → (n : ℕ) × (slice_get names n ≡ Some text)
    by None e = let f : is_name names text ≡ false = no_first text names e in cc
    by (Some n) e =
        let w = at-first (bytes_eq text) names n e in
        (n, w.1 ∙ ap (λ (t : List ℕ). Some t) (sym ((bytes_eq-Decides text w.0).0 w.2)))

new_name : (names : List (List ℕ)) (text : List ℕ) (more : List (List ℕ)) → AreNames (names ++ text ∷ more) → is_name names text ≡ false
new_name names text more a = by (is_name names text) refl
  where
    by : (b : Bool) → is_name names text ≡ b → b ≡ false
    by false e = refl
    by true e =
        let w = name_stands names text e in
        let within = slice_get_within names w.0 text w.1 in
        let same : w.0 ≡ length names = a.different w.0 (length names) text (slice_get_kept names (text ∷ more) w.0 text w.1) (slice_get_here names text more) in
        absurd (omega (arith, within, same))

name_loads : (names : List (List ℕ)) (text : List ℕ) (more : List (List ℕ)) → AreNames (names ++ text ∷ more) → LoadsName (made names []) text (made (names ++ text ∷ []) [])
name_loads names text more a =
    let new = new_name names text more a in
    let selects : is_selector text ≡ true = a.selectors (length names) text (slice_get_here names text more) in
    let few : length names < 8192 = omega (arith, a.few, length-append names (text ∷ more)) in
    let room : nat_le 8192 (length names) ≡ false = grind (arith, nat_tests) in
    record {
      new = new;
      allowed = rw (selects, new, room) refl;
      added = ap (λ (ns : List (List ℕ)). made ns []) (rw new refl);
    }

names_load : (names more : List (List ℕ)) → AreNames (names ++ more) → LoadsAll LoadsName (made names []) more (made (names ++ more) [])
names_load names [] a = ap (λ (ns : List (List ℕ)). made ns []) (append-nil names)
names_load names (text ∷ more) a =
    let next : (names ++ text ∷ []) ++ more ≡ names ++ text ∷ more = append_assoc names (text ∷ []) more in (
      made (names ++ text ∷ []) [],
      name_loads names text more a,
      subst (λ (ns : List (List ℕ)). LoadsAll LoadsName (made (names ++ text ∷ []) []) more (made ns [])) next (names_load (names ++ text ∷ []) more (subst AreNames (sym next) a)),
    )

all_names : (names : List (List ℕ)) → AreNames names → LoadsAll LoadsName (made kernel_selectors []) (drop 22 names) (made names [])
all_names names a =
    let parts : kernel_selectors ++ drop 22 names ≡ names = ap (λ (ns : List (List ℕ)). ns ++ drop 22 names) (sym a.kernel) ∙ take-append-drop 22 names in
    subst (λ (ns : List (List ℕ)). LoadsAll LoadsName (made kernel_selectors []) (drop 22 names) (made ns [])) parts (names_load kernel_selectors (drop 22 names) (subst AreNames (sym parts) a))

-- ---- what an accepted edit names

define_class : (edits : List Edit) (name : List ℕ) (parent : ClassId) (slots : List (List ℕ)) → first_of (edit_rules edits (Define name parent slots)) ≡ None → parent.0 < class_count edits
define_class edits name parent slots h = ltb-true parent.0 (class_count edits) (not-false (is_class edits parent) (no_rule (edit_rules edits (Define name parent slots)) 0 (not (is_class edits parent), UnknownClass) h refl))

install_class : (edits : List Edit) (c : ClassId) (m : MethodParts) → first_of (edit_rules edits (Install c m)) ≡ None → c.0 < class_count edits
install_class edits c m h = ltb-true c.0 (class_count edits) (not-false (is_class edits c) (no_rule (edit_rules edits (Install c m)) 0 (not (is_class edits c), UnknownClass) h refl))

remove_class : (edits : List Edit) (c : ClassId) (s : Selector) → first_of (edit_rules edits (Remove c s)) ≡ None → c.0 < class_count edits
remove_class edits c s h = ltb-true c.0 (class_count edits) (not-false (is_class edits c) (no_rule (edit_rules edits (Remove c s)) 0 (not (is_class edits c), UnknownClass) h refl))

-- both classes of a reparent are classes
reparent_class : (edits : List Edit) (c p : ClassId) → first_of (edit_rules edits (Reparent c p)) ≡ None → c.0 < class_count edits
reparent_class edits c p h = (may_move edits c p h).here

reparent_above : (edits : List Edit) (c p : ClassId) → first_of (edit_rules edits (Reparent c p)) ≡ None → p.0 < class_count edits
reparent_above edits c p h = (may_move edits c p h).there

users : (o : Option Found) → is_some (user_method o) ≡ true → (m : MethodId) × (o ≡ Some (User m))
users None h = cc
users (Some (User m)) h = (m, refl)
users (Some (FoundKernel k)) h = cc

-- what is removed was installed
removed_stands : (edits : List Edit) (c : ClassId) (s : Selector) → first_of (edit_rules edits (Remove c s)) ≡ None → (m : MethodId) × Stands edits c s m
removed_stands edits c s h =
    let found = users (own edits c s) (not-false (is_some (user_method (own edits c s))) (no_rule (edit_rules edits (Remove c s)) 2 (not (is_some (user_method (own edits c s))), NoSuchMethod) h refl)) in
    (found.0, own_stands edits c s found.0 found.1)

-- a selector with a number of arguments is a name's
known_text : (names : List (List ℕ)) (s : Selector) (n : ℕ) → is_number (arity_at names s) n ≡ true → slice_get names s.0 ≡ Some (selector_text names s)
known_text names s n h = by (slice_get names s.0) refl
  where
    by : (o : Option (List ℕ)) → slice_get names s.0 ≡ o → slice_get names s.0 ≡ Some (unwrap_or (slice_get names s.0) [])
    by None e = let k : is_number (arity_at names s) n ≡ false = rw e refl in cc
    by (Some text) e = rw e refl

fits_number : (names : List (List ℕ)) (edits : List Edit) (c : ClassId) (m : MethodParts) → suits names edits c m ≡ true → is_number (arity_at names m.selector) m.arguments ≡ true
fits_number names edits c m h = (and_parts (m.holder.0 == c.0) (is_number (arity_at names m.selector) m.arguments) (and_parts ((m.holder.0 == c.0) && is_number (arity_at names m.selector) m.arguments) (list_all (instruction_suits names (class_count edits) (length (slots edits c)) (m.arguments + m.temporaries)) m.code) h).0).1

-- the selector of what is removed is a name
pub removed_text : (names : List (List ℕ)) (edits more : List Edit) (c : ClassId) (s : Selector) → AllSuit names (edits ++ more) → first_of (edit_rules edits (Remove c s)) ≡ None → slice_get names s.0 ≡ Some (selector_text names s)
removed_text names edits more c s all h =
    let w = removed_stands edits c s h in
    let m : MethodParts = w.1.method in
    let at : slice_get (edits ++ more) w.0.0 ≡ Some (Install c m) = slice_get_kept edits more w.0.0 (Install c m) (stands_at edits c s w.0 w.1) in
    let number : is_number (arity_at names m.selector) m.arguments ≡ true = fits_number names (edits ++ more) c m (all w.0.0 c m at) in
    known_text names s m.arguments (subst (λ (t : Selector). is_number (arity_at names t) m.arguments ≡ true) w.1.named number)

-- ---- edits

-- names and edits of an image
record IsTable (names : List (List ℕ)) (edits : List Edit) : Type 0 where
  named : AreNames names
  lawful : AreLawful edits
  suited : AllSuit names edits
  compiled : AllCompiled names edits

-- what is true of an edit behind those before it
allowed_here : (names : List (List ℕ)) (edits more : List Edit) (e : Edit) → IsTable names (edits ++ e ∷ more) → first_of (edit_rules edits e) ≡ None
allowed_here names edits more e t = subst (λ (es : List Edit). first_of (edit_rules es e) ≡ None) (take_whole edits (e ∷ more)) (t.lawful (length edits) e (slice_get_here edits e more))

compiled_here : (names : List (List ℕ)) (edits more : List Edit) (c : ClassId) (m : MethodParts) → IsTable names (edits ++ Install c m ∷ more) → IsCompiledFrom names edits c m
compiled_here names edits more c m t = subst (λ (es : List Edit). IsCompiledFrom names es c m) (take_whole edits (Install c m ∷ more)) (t.compiled (length edits) c m (slice_get_here edits (Install c m) more))

install_loads : (names : List (List ℕ)) (edits more : List Edit) (c : ClassId) (m : MethodParts) → length names ≤ 8192 → first_of (edit_rules edits (Install c m)) ≡ None → class_named edits (class_text (edits ++ more) c) ≡ Some c → IsCompiledFrom names edits c m → InstallsFrom (made names edits) (class_text (edits ++ more) c) m.source (made names (edits ++ Install c m ∷ []))
install_loads names edits more c m few allowed named p = record {
  holder = c;
  method = p.method;
  named = named;
  spelled = p.spelled;
  installs = record {
    parts = m;
    accepted = rules_none names edits c m few p;
    names = sym (needs_none names edits c p.method m.source m p.compiled);
    compiled = p.compiled;
    accepts = record { allowed = allowed; added = refl };
  };
}

edit_loads : (names : List (List ℕ)) (edits : List Edit) (e : Edit) (more : List Edit) → IsTable names (edits ++ e ∷ more) → NamedOnce (classes edits) → first_of (edit_rules edits e) ≡ None → LoadsEdit (made names edits) (edit_text names (edits ++ e ∷ more) e) (made names (edits ++ e ∷ []))
edit_loads names edits (Define name parent slots) more t once allowed = record {
  above = parent;
  named = class_again edits (Define name parent slots ∷ more) parent (define_class edits name parent slots allowed) once;
  accepts = record { allowed = allowed; added = refl };
  names = refl;
}
edit_loads names edits (Install c m) more t once allowed = install_loads names edits (Install c m ∷ more) c m t.named.few allowed (class_again edits (Install c m ∷ more) c (install_class edits c m allowed) once) (compiled_here names edits more c m t)
edit_loads names edits (Remove c s) more t once allowed = record {
  holder = c;
  number = s.0;
  named = class_again edits (Remove c s ∷ more) c (remove_class edits c s allowed) once;
  there = place-of_name names t.named (selector_text names s) s.0 (removed_text names edits (Remove c s ∷ more) c s t.suited allowed);
  accepts = record { allowed = allowed; added = refl };
  names = refl;
}
edit_loads names edits (Reparent c p) more t once allowed = record {
  moved = c;
  above = p;
  named = class_again edits (Reparent c p ∷ more) c (reparent_class edits c p allowed) once;
  named_above = class_again edits (Reparent c p ∷ more) p (reparent_above edits c p allowed) once;
  accepts = record { allowed = allowed; added = refl };
  names = refl;
}

edits_load : (names : List (List ℕ)) (edits more : List Edit) → IsTable names (edits ++ more) → NamedOnce (classes edits) → LoadsAll LoadsEdit (made names edits) (map (edit_text names (edits ++ more)) more) (made names (edits ++ more))
edits_load names edits [] t once = ap (λ (es : List Edit). made names es) (append-nil edits)
edits_load names edits (e ∷ more) t once =
    let allowed = allowed_here names edits more e t in
    let next : (edits ++ e ∷ []) ++ more ≡ edits ++ e ∷ more = append_assoc edits (e ∷ []) more in (
      made names (edits ++ e ∷ []),
      edit_loads names edits e more t once allowed,
      subst (λ (es : List Edit). LoadsAll LoadsEdit (made names (edits ++ e ∷ [])) (map (edit_text names es) more) (made names es)) next (edits_load names (edits ++ e ∷ []) more (subst (IsTable names) (sym next) t) (once_after edits e allowed once)),
    )

pub tables_reload : TablesReload
tables_reload = λ names edits named lawful suited compiled. record {
  named = all_names names named;
  edited = edits_load names [] edits (record { named = named; lawful = lawful; suited = suited; compiled = compiled }) kernel_once;
}
