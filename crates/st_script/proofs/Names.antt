-- Selectors and class names are ASCII.
use Rattle.std.proofs.Common.{◌≡◌, ℕ, ◌<◌, ◌+◌, ◌==◌, ◌&&◌, Bool, true, false, not, List, [], ◌∷◌, length, nat_le, Option, Some, None, is_some, option_map, zero, suc, take, slice_get, refl, ap, ◌∙◌, subst, arith}
use Rattle.std.specs.List.{list_all}
use Rattle.std.specs.Str.{IsAscii, IsUtf8}
use Rattle.std.proofs.lemmas.Str.{IsUtf8-from_ascii}
use Rattle.std.proofs.lemmas.Str.Ascii.{IsAscii-nil, IsAscii-cons}
use Rattle.std.proofs.lemmas.Bool.{and_parts, and_from, not-false}
use Rattle.std.proofs.lemmas.Bool.Decides.{nat_tests}
use Rattle.std.proofs.lemmas.List.Folds.{list_all-append}
use Rattle.st_classes.specs.declared.edits.Edit.{Edit}
use Rattle.st_classes.specs.declared.edits.Edit.TheVariants.{Define, Install, Remove, Reparent}
use Rattle.st_classes.specs.declared.values.ClassId.{ClassId}
use Rattle.st_classes.specs.EditRules.{define_rules, edit_rules}
use Rattle.st_classes.specs.Classes.{ClassDef, kernel_classes, reparented, classes, classes_after, classes_from, class_name}
use Rattle.st_classes.specs.EditLists.{AreLawful}
use Rattle.st_classes.specs.Refusals.{first_of}
use Rattle.st_classes.specs.Selectors.{is_letter, is_letter_or_digit, is_identifier, begins_upper, is_class_name, is_slot_name, is_binary_character, is_binary, before_first_part, parts, keywords, keyword_arity, is_selector}
use Rattle.st_classes.proofs.Growing.{NoneApply, none_apply}
use Rattle.st_classes.proofs.LawLists.{list_all_get}

letter : (b : ℕ) → is_letter b ≡ true → b < 128
letter b h = grind (arith, nat_tests)

letter_or_digit : (b : ℕ) → is_letter_or_digit b ≡ true → b < 128
letter_or_digit b h = grind (arith, nat_tests)

letters : (bs : List ℕ) → list_all is_letter_or_digit bs ≡ true → IsAscii bs
letters [] h = IsAscii-nil
letters (b ∷ bs) h = let p = and_parts (is_letter_or_digit b) (list_all is_letter_or_digit bs) h in IsAscii-cons b bs (letter_or_digit b p.0) (letters bs p.1)

identifier : (text : List ℕ) → is_identifier text ≡ true → IsAscii text
identifier [] h = IsAscii-nil
identifier (b ∷ bs) h =
    let p = and_parts (is_letter b) (list_all is_letter_or_digit bs) (and_parts (is_letter b && list_all is_letter_or_digit bs) (nat_le (length bs) 63) h).0 in
    IsAscii-cons b bs (letter b p.0) (letters bs p.1)

binary_character : (b : ℕ) → is_binary_character b ≡ true → b < 128
binary_character b h = grind (arith, nat_tests)

binary : (text : List ℕ) → is_binary text ≡ true → IsAscii text
binary [] h = IsAscii-nil
binary (a ∷ []) h = IsAscii-cons a [] (binary_character a h) IsAscii-nil
binary (a ∷ b ∷ []) h =
    let p = and_parts (is_binary_character a) (is_binary_character b) (and_parts (is_binary_character a && is_binary_character b) (not (b == 45)) h).0 in
    IsAscii-cons a (b ∷ []) (binary_character a p.0) (IsAscii-cons b [] (binary_character b p.1) IsAscii-nil)
binary (a ∷ b ∷ c ∷ text) h = cc

-- ---- keywords

abbrev AreAscii : List (List ℕ) → Type 0
AreAscii [] = Unit {0}
AreAscii (part ∷ parts) = IsAscii part × AreAscii parts

some_mapped : (f : ℕ → ℕ) (o : Option ℕ) → is_some (option_map f o) ≡ true → is_some o ≡ true
some_mapped f None h = h
some_mapped f (Some n) h = refl

some_keywords : (o : Option ℕ) → is_some (keyword_arity o) ≡ true → is_some o ≡ true
some_keywords None h = h
some_keywords (Some n) h = refl

parts_ascii : (ps : List (List ℕ)) → is_some (keywords ps) ≡ true → AreAscii ps
parts_ascii [] h = tt
parts_ascii ([] ∷ []) h = (IsAscii-nil, tt)
parts_ascii ((b ∷ bs) ∷ []) h =
    let some : (length (b ∷ bs) == 0) ≡ false = grind (arith, nat_tests) in
    let none : false ≡ true = rw some at h in
    cc
parts_ascii (p ∷ q ∷ ps) h = by (is_identifier p) refl (parts_ascii (q ∷ ps))
  where
    by : (v : Bool) → is_identifier p ≡ v → (is_some (keywords (q ∷ ps)) ≡ true → AreAscii (q ∷ ps)) → AreAscii (p ∷ q ∷ ps)
    by true e more = let rest : is_some (option_map (λ n. n + 1) (keywords (q ∷ ps))) ≡ true = rw e at h in (identifier p e, more (some_mapped (λ n. n + 1) (keywords (q ∷ ps)) rest))
    by false e more = let none : false ≡ true = rw e at h in cc

before_first : (b : ℕ) (bs : List ℕ) (ps : List (List ℕ)) → (AreAscii ps → IsAscii bs) → AreAscii (before_first_part b ps) → IsAscii (b ∷ bs)
before_first b bs [] rest h = IsAscii-cons b bs (h.0 0) (rest tt)
before_first b bs (p ∷ ps) rest h = IsAscii-cons b bs (h.0 0) (rest (λ i. h.0 (suc i), h.1))

joined : (bs : List ℕ) → AreAscii (parts bs) → IsAscii bs
joined [] h = IsAscii-nil
joined (b ∷ bs) h = by (b == 58) refl (joined bs)
  where
    by : (v : Bool) → (b == 58) ≡ v → (AreAscii (parts bs) → IsAscii bs) → IsAscii (b ∷ bs)
    by true e rest = let split : AreAscii ([] ∷ parts bs) = rw e at h in IsAscii-cons b bs (grind (arith, nat_tests)) (rest split.1)
    by false e rest = let first : AreAscii (before_first_part b (parts bs)) = rw e at h in before_first b bs (parts bs) rest first

pub selector_ascii : (text : List ℕ) → is_selector text ≡ true → IsAscii text
selector_ascii text h = by (is_identifier text) refl (is_binary text) refl
  where
    by : (v : Bool) → is_identifier text ≡ v → (w : Bool) → is_binary text ≡ w → IsAscii text
    by true e w f = identifier text e
    by false e true f = binary text f
    by false e false f =
        let some : is_some (keyword_arity (keywords (parts text))) ≡ true = rw (e, f) at h in
        joined text (parts_ascii (parts text) (some_keywords (keywords (parts text)) some))

-- ---- class names

-- a definition is of a class name
abbrev defines_name : Edit → Bool
defines_name (Define name parent slots) = is_class_name name
defines_name (Install c m) = true
defines_name (Remove c s) = true
defines_name (Reparent c p) = true

accepted : (es : List Edit) (e : Edit) → first_of (edit_rules es e) ≡ None → defines_name e ≡ true
accepted es (Define name parent slots) h =
    let r : NoneApply (define_rules es name parent slots) = none_apply (define_rules es name parent slots) h in
    (and_parts (is_class_name name) (list_all is_slot_name slots) (not-false _ r.1.0)).0
accepted es (Install c m) h = refl
accepted es (Remove c s) h = refl
accepted es (Reparent c p) h = refl

abbrev has_name : ClassDef → Bool
has_name d = is_class_name d.name

names_kept : (cs : List ClassDef) (n : ℕ) (p : ClassId) → list_all has_name (reparented cs n p) ≡ list_all has_name cs
names_kept [] n p = refl
names_kept (d ∷ cs) zero p = refl
names_kept (d ∷ cs) (suc n) p = ap (λ (b : Bool). has_name d && b) (names_kept cs n p)

names_after : (cs : List ClassDef) (e : Edit) → defines_name e ≡ true → list_all has_name cs ≡ true → list_all has_name (classes_after cs e) ≡ true
names_after cs (Define name parent slots) h all = list_all-append has_name cs (record { name = name; parent = Some parent; slots = slots } ∷ []) ∙ and_from (list_all has_name cs) (is_class_name name && true) all (and_from (is_class_name name) true h refl)
names_after cs (Install c m) h all = all
names_after cs (Remove c s) h all = all
names_after cs (Reparent c p) h all = names_kept cs c.0 p ∙ all

-- the classes that edits make have class names
names_from : (cs : List ClassDef) (edits : List Edit) → ((place : ℕ) (e : Edit) → slice_get edits place ≡ Some e → defines_name e ≡ true) → list_all has_name cs ≡ true → list_all has_name (classes_from cs edits) ≡ true
names_from cs [] h all = all
names_from cs (e ∷ edits) h all = names_from (classes_after cs e) edits (λ place d at. h (suc place) d at) (names_after cs e (h 0 e refl) all)

pub class_name_ascii : (edits : List Edit) (c : ClassId) (name : List ℕ) → AreLawful edits → class_name edits c ≡ Some name → IsAscii name
class_name_ascii edits c name lawful h = by (slice_get (classes edits) c.0) refl
  where
    all : list_all has_name (classes edits) ≡ true
    all = names_from kernel_classes edits (λ place e at. accepted (take place edits) e (lawful place e at)) refl

    by : (o : Option ClassDef) → slice_get (classes edits) c.0 ≡ o → IsAscii name
    by None e = let none : None ≡ Some name = rw e at h in cc
    by (Some d) e =
        let some : Some d.name ≡ Some name = rw e at h in
        let same : d.name ≡ name = cc in
        subst IsAscii same (identifier d.name (and_parts (is_identifier d.name) (begins_upper d.name) (list_all_get has_name (classes edits) c.0 d all e)).0)

pub utf8_from_ascii : (bs : List ℕ) → IsAscii bs → IsUtf8 bs
utf8_from_ascii bs h = IsUtf8-from_ascii bs h
