-- Names and classes are found again by their texts.
use Rattle.std.proofs.Common.{◌≡◌, ℕ, ◌<◌, ◌≤◌, Bool, true, false, List, [], ◌∷◌, ◌++◌, length, map, take, Option, Some, None, option_map, slice_get, get_or, is_some, zero, suc, refl, sym, ap, subst, ◌∙◌, arith, true≢false, le_refl}
use Rattle.std.specs.List.{list_any, list_all, position}
use Rattle.std.specs.Str.{bytes_eq}
use Rattle.std.proofs.lemmas.Bool.{and_parts, not-false, ltb-true}
use Rattle.std.proofs.lemmas.List.{take_all, map-append}
use Rattle.std.proofs.lemmas.List.Folds.{list_all-append}
use Rattle.std.proofs.lemmas.Option.{slice_get-get_or, slice_get-map}
use Rattle.std.proofs.lemmas.Slice.Eq.{bytes_eq-Decides}
use Rattle.st_classes.specs.declared.values.ClassId.{ClassId}
use Rattle.st_classes.specs.declared.edits.Edit.{Edit}
use Rattle.st_classes.specs.declared.edits.Edit.TheVariants.{Define, Install, Remove, Reparent}
use Rattle.st_classes.specs.Classes.{ClassDef, classes, class_name, class_named, is_class}
use Rattle.st_classes.specs.EditLists.{AreLawful}
use Rattle.st_classes.specs.EditRules.{are_names, edit_rules, define_rules, has_twice}
use Rattle.st_classes.specs.Kernel.{class}
use Rattle.st_classes.specs.Names.{AreNames, is_name}
use Rattle.st_classes.specs.Refusals.{first_of}
use Rattle.st_classes.specs.Selectors.{place_of, is_class_name, is_slot_name}
use Rattle.st_classes.proofs.Indexing.{position_cons}
use Rattle.st_classes.proofs.LawLists.{take_at_place, list_all_get}
use Rattle.st_classes.proofs.Naming.{or-parts, position-map}
use Rattle.st_classes.proofs.LawChains.{classes_push}
use Rattle.st_classes.proofs.Reparenting.{names_kept}
use Rattle.st_classes.proofs.Growing.{none_apply, NoneApply}
use Rattle.st_classes.proofs.Defining.{no_such_class}

same : (text : List ℕ) → bytes_eq text text ≡ true
same text = (bytes_eq-Decides text text).1 refl

-- ---- names

-- the place of an item that alone passes a test
position_alone : {X : Type 0} (p : X → Bool) (xs : List X) (k : ℕ) (x : X) → slice_get xs k ≡ Some x → p x ≡ true → ((j : ℕ) (y : X) → slice_get xs j ≡ Some y → p y ≡ true → j ≡ k) → position p xs ≡ Some k
position_alone p [] k x at here alone = absurd (let e : None ≡ Some x = at in cc)
position_alone p (y ∷ ys) zero x at here alone =
    let e : y ≡ x = cc in
    position_cons p y ys true (ap p e ∙ here)
position_alone p (y ∷ ys) (suc k) x at here alone = by (p y) refl (position_alone p ys k x at here (λ j z there passes. omega (arith, alone (suc j) z there passes)))
  where
    by : (b : Bool) → p y ≡ b → position p ys ≡ Some k → position p (y ∷ ys) ≡ Some (suc k)
    by true e rest = absurd (omega (arith, alone 0 y refl e))
    by false e rest = position_cons p y ys false e ∙ ap (option_map suc) rest

-- a name stands at one place
pub name_again : (names : List (List ℕ)) (s : ℕ) (text : List ℕ) → AreNames names → slice_get names s ≡ Some text → place_of names text ≡ Some s
name_again names s text are at = position_alone (bytes_eq text) names s text at (same text) (λ j y there e. are.different j s text (there ∙ ap Some (sym ((bytes_eq-Decides text y).0 e))) at)

-- ---- classes

abbrev names_of : List ClassDef → List (List ℕ)
names_of cs = map (λ (d : ClassDef). d.name) cs

-- class names that are all different
record AreClassNames (texts : List (List ℕ)) : Type 0 where
  names : list_all is_class_name texts ≡ true
  once : has_twice texts ≡ false

differ : (x y : List ℕ) → bytes_eq x y ≡ false → bytes_eq y x ≡ false
differ x y h = by (bytes_eq y x) refl
  where
    by : (b : Bool) → bytes_eq y x ≡ b → b ≡ false
    by false e = refl
    by true e = absurd (true≢false (sym ((bytes_eq-Decides x y).1 (sym ((bytes_eq-Decides y x).0 e))) ∙ h))

-- a test that no item passes
none_at : {X : Type 0} (p : X → Bool) (xs : List X) (x : X) (k : ℕ) → list_any p xs ≡ false → slice_get xs k ≡ Some x → p x ≡ false
none_at p [] x k a at = absurd (let e : None ≡ Some x = at in cc)
none_at p (y ∷ xs) x zero a at = let e : y ≡ x = cc in ap p (sym e) ∙ (or-parts (p y) (list_any p xs) a).0
none_at p (y ∷ xs) x (suc k) a at = none_at p xs x k (or-parts (p y) (list_any p xs) a).1 at

any_push : {X : Type 0} (p : X → Bool) (xs : List X) (y : X) → list_any p xs ≡ false → p y ≡ false → list_any p (xs ++ y ∷ []) ≡ false
any_push p [] y h e = rw e
any_push p (x ∷ xs) y h e = let parts = or-parts (p x) (list_any p xs) h in rw (parts.0, any_push p xs y parts.1 e)

twice_push : (texts : List (List ℕ)) (text : List ℕ) → has_twice texts ≡ false → is_name texts text ≡ false → has_twice (texts ++ text ∷ []) ≡ false
twice_push [] text once new = refl
twice_push (t ∷ ts) text once new =
    let parts = or-parts (list_any (bytes_eq t) ts) (has_twice ts) once in
    let news = or-parts (bytes_eq text t) (is_name ts text) new in
    rw (any_push (bytes_eq t) ts text parts.0 (differ text t news.0), twice_push ts text parts.1 news.1)

-- where none is found by a name, no class has it
later : (o : Option ℕ) → is_some (option_map class (option_map suc o)) ≡ false → is_some (option_map class o) ≡ false
later None h = refl
later (Some n) h = absurd (true≢false h)

is_new : (cs : List ClassDef) (text : List ℕ) → is_some (option_map class (position (λ (d : ClassDef). bytes_eq text d.name) cs)) ≡ false → is_name (names_of cs) text ≡ false
is_new [] text none = refl
is_new (d ∷ cs) text none = by (bytes_eq text d.name) refl (λ h. is_new cs text h)
  where
    has_name : ClassDef → Bool
    has_name e = bytes_eq text e.name

    found : Option ℕ → Bool
    found o = is_some (option_map class o)

    by : (b : Bool) → bytes_eq text d.name ≡ b → (found (position has_name cs) ≡ false → is_name (names_of cs) text ≡ false) → is_name (names_of (d ∷ cs)) text ≡ false
    by true e rest = absurd (true≢false (ap found (sym (position_cons has_name d cs true e)) ∙ none))
    by false e rest = rw e (rest (later (position has_name cs) (ap found (sym (position_cons has_name d cs false e)) ∙ none)))

class_names_push : (cs : List ClassDef) (d : ClassDef) → AreClassNames (names_of cs) → is_class_name d.name ≡ true → is_name (names_of cs) d.name ≡ false → AreClassNames (names_of (cs ++ d ∷ []))
class_names_push cs d are good new = subst AreClassNames (sym (map-append (λ (e : ClassDef). e.name) cs (d ∷ []))) (record {
  names = list_all-append is_class_name (names_of cs) (d.name ∷ []) ∙ rw (are.names, good);
  once = twice_push (names_of cs) d.name are.once new;
})

class_names_after : (es : List Edit) (e : Edit) → AreClassNames (names_of (classes es)) → first_of (edit_rules es e) ≡ None → AreClassNames (names_of (classes (es ++ e ∷ [])))
class_names_after es (Define name parent slots) are h =
    let r : NoneApply (define_rules es name parent slots) = none_apply (define_rules es name parent slots) h in
    let d : ClassDef = record { name = name; parent = Some parent; slots = slots } in
    let good : is_class_name name ≡ true = (and_parts (is_class_name name) (list_all is_slot_name slots) (not-false (are_names name slots) r.1.0)).0 in
    subst (λ (cs : List ClassDef). AreClassNames (names_of cs)) (sym (classes_push es (Define name parent slots))) (class_names_push (classes es) d are good (is_new (classes es) name (no_such_class es name parent slots h)))
class_names_after es (Install c m) are h = subst (λ (cs : List ClassDef). AreClassNames (names_of cs)) (sym (classes_push es (Install c m))) are
class_names_after es (Remove c s) are h = subst (λ (cs : List ClassDef). AreClassNames (names_of cs)) (sym (classes_push es (Remove c s))) are
class_names_after es (Reparent c p) are h = subst (λ (cs : List ClassDef). AreClassNames (names_of cs)) (sym (classes_push es (Reparent c p))) (subst AreClassNames (sym (names_kept (classes es) c.0 p)) are)

class_names_take : (edits : List Edit) → AreLawful edits → (n : ℕ) → n ≤ length edits → AreClassNames (names_of (classes (take n edits)))
class_names_take edits l zero h = record { names = refl; once = refl }
class_names_take [] l (suc n) h = absurd (omega (arith, h))
class_names_take (d ∷ edits) l (suc n) h =
    let e = slice_get-get_or (d ∷ edits) n d (omega (arith, h)) in
    subst (λ (es : List Edit). AreClassNames (names_of (classes es))) (sym (take_at_place (d ∷ edits) n _ e)) (class_names_after (take n (d ∷ edits)) _ (class_names_take (d ∷ edits) l n (omega (arith, h))) (l n _ e))

-- lawful edits name their classes differently
class_names : (edits : List Edit) → AreLawful edits → AreClassNames (names_of (classes edits))
class_names edits l = subst (λ (es : List Edit). AreClassNames (names_of (classes es))) (take_all (length edits) edits (le_refl (length edits))) (class_names_take edits l (length edits) (le_refl (length edits)))

-- the first place of a text that stands once
place_again : (texts : List (List ℕ)) (text : List ℕ) (k : ℕ) → has_twice texts ≡ false → slice_get texts k ≡ Some text → position (bytes_eq text) texts ≡ Some k
place_again [] text k once at = absurd (let e : None ≡ Some text = at in cc)
place_again (t ∷ ts) text zero once at = let e : t ≡ text = cc in position_cons (bytes_eq text) t ts true (ap (bytes_eq text) e ∙ same text)
place_again (t ∷ ts) text (suc k) once at =
    let parts = or-parts (list_any (bytes_eq t) ts) (has_twice ts) once in
    let other : bytes_eq text t ≡ false = differ t text (none_at (bytes_eq t) ts text k parts.0 at) in
    position_cons (bytes_eq text) t ts false other ∙ ap (option_map suc) (place_again ts text k parts.1 at)

-- the text of a class is at the class's place
name_at : (edits : List Edit) (c : ClassId) (text : List ℕ) → class_name edits c ≡ Some text → slice_get (names_of (classes edits)) c.0 ≡ Some text
name_at edits c text h = slice_get-map (λ (d : ClassDef). d.name) (classes edits) c.0 ∙ h

pub class_again : (edits : List Edit) (c : ClassId) (text : List ℕ) → AreLawful edits → class_name edits c ≡ Some text → class_named edits text ≡ Some c
class_again edits c text l h =
    let at : position (bytes_eq text) (names_of (classes edits)) ≡ Some c.0 = place_again (names_of (classes edits)) text c.0 (class_names edits l).once (name_at edits c text h) in
    ap (option_map class) (sym (position-map (λ (d : ClassDef). d.name) (bytes_eq text) (classes edits)) ∙ at)

-- what names a class is a class name
pub is_its_name : (edits : List Edit) (c : ClassId) (text : List ℕ) → AreLawful edits → class_name edits c ≡ Some text → is_class_name text ≡ true
is_its_name edits c text l h = list_all_get is_class_name (names_of (classes edits)) c.0 text (class_names edits l).names (name_at edits c text h)

nameless : ClassDef
nameless = record { name = []; parent = None; slots = [] }

-- each class has a name
pub has_name : (edits : List Edit) (c : ClassId) → is_class edits c ≡ true → class_name edits c ≡ None → ⊥
has_name edits c h none =
    let w : c.0 < length (classes edits) = ltb-true c.0 (length (classes edits)) h in
    let e : slice_get (classes edits) c.0 ≡ Some (get_or (classes edits) c.0 nameless) = slice_get-get_or (classes edits) c.0 nameless w in
    let k : Some (get_or (classes edits) c.0 nameless).name ≡ None = sym (ap (option_map (λ (d : ClassDef). d.name)) e) ∙ none in
    absurd cc
