-- The texts of the names and of the edits of a class table are UTF-8.
use Rattle.std.proofs.Common.{◌≡◌, ℕ, ◌<◌, true, ◌&&◌, List, [], ◌∷◌, length, drop, take, get_or, Option, Some, None, slice_get, unwrap_or, All, nat_le, refl, arith}
use Rattle.std.specs.List.{list_all}
use Rattle.std.proofs.lemmas.Bool.{and_parts, not-false}
use Rattle.std.proofs.lemmas.Bool.Decides.{nat_tests}
use Rattle.std.proofs.lemmas.List.Elements.{All-drop, All-map, All-weaker}
use Rattle.std.proofs.lemmas.List.Sums.{AllPass-from_list_all}
use Rattle.std.proofs.lemmas.Option.{slice_get-get_or}
use Rattle.std.proofs.lemmas.Str.{IsUtf8-nil, IsUtf8-from_ascii, is_utf8-from_IsUtf8}
use Rattle.std.proofs.lemmas.Str.Ascii.{IsAscii-cons, IsAscii-from_all}
use Rattle.st_classes.specs.declared.values.ClassId.{ClassId}
use Rattle.st_classes.specs.declared.values.Selector.{Selector}
use Rattle.st_classes.specs.declared.edits.Edit.{Edit}
use Rattle.st_classes.specs.declared.edits.Edit.TheVariants.{Define, Install, Remove, Reparent}
use Rattle.st_classes.specs.Classes.{class_name}
use Rattle.st_classes.specs.EditLists.{AreLawful}
use Rattle.st_classes.specs.EditRules.{are_names, define_rules}
use Rattle.st_classes.specs.Names.{AreNames}
use Rattle.st_classes.specs.Selectors.{is_class_name, is_identifier, is_letter, is_letter_or_digit, is_slot_name}
use Rattle.st_classes.proofs.Growing.{none_apply, NoneApply}
use Rattle.st_image.specs.CompiledEdits.{AllCompiled}
use Rattle.st_image.specs.Loading.{class_text, edit_text, edit_texts, selector_text}
use Rattle.st_file.specs.Tellable.{EditIsText, IsText}
use Rattle.st_file.proofs.AsciiNames.{class_name_is_text, selector_is_text}
use Rattle.st_file.proofs.FoundAgain.{is_its_name}
use Rattle.st_file.proofs.SpelledTexts.{spelled_is_ascii}

pub all_there : {X : Type 0} (P : X → Type 0) (xs : List X) → ((k : ℕ) (x : X) → slice_get xs k ≡ Some x → P x) → All P xs
all_there P xs f k d h = f k (get_or xs k d) (slice_get-get_or xs k d h)

pub names_are_text : (names : List (List ℕ)) → AreNames names → All IsText (drop 22 names)
names_are_text names are = All-drop IsText 22 names (all_there IsText names (λ k text at. selector_is_text text (are.selectors k text at)))

pub empty_is_text : IsText []
empty_is_text = is_utf8-from_IsUtf8 [] IsUtf8-nil

letter : (b : ℕ) → is_letter b ≡ true → b < 128
letter b h = grind (arith, nat_tests)

letter_or_digit : (b : ℕ) → is_letter_or_digit b ≡ true → b < 128
letter_or_digit b h = grind (arith, nat_tests)

identifier_is_text : (text : List ℕ) → is_identifier text ≡ true → IsText text
identifier_is_text [] h = empty_is_text
identifier_is_text (b ∷ bs) h =
    let outer = and_parts (is_letter b && list_all is_letter_or_digit bs) (nat_le (length bs) 63) h in
    let inner = and_parts (is_letter b) (list_all is_letter_or_digit bs) outer.0 in
    let rest = All-weaker (λ (c : ℕ). is_letter_or_digit c ≡ true) (λ (c : ℕ). c < 128) letter_or_digit bs (AllPass-from_list_all is_letter_or_digit bs inner.1) in
    is_utf8-from_IsUtf8 (b ∷ bs) (IsUtf8-from_ascii (b ∷ bs) (IsAscii-cons b bs (letter b inner.0) (IsAscii-from_all bs rest)))

pub slot_is_text : (text : List ℕ) → is_slot_name text ≡ true → IsText text
slot_is_text text h = identifier_is_text text (and_parts (is_identifier text) _ (and_parts (is_identifier text && _) _ h).0).0

pub class_is_text : (edits : List Edit) (c : ClassId) → AreLawful edits → IsText (class_text edits c)
class_is_text edits c lawful = by (class_name edits c) refl
  where
    by : (o : Option (List ℕ)) → class_name edits c ≡ o → IsText (unwrap_or o [])
    by None e = empty_is_text
    by (Some text) e = class_name_is_text text (is_its_name edits c text lawful e)

pub name_is_text : (names : List (List ℕ)) (s : Selector) → AreNames names → IsText (selector_text names s)
name_is_text names s are = by (slice_get names s.0) refl
  where
    by : (o : Option (List ℕ)) → slice_get names s.0 ≡ o → IsText (unwrap_or o [])
    by None e = empty_is_text
    by (Some text) e = selector_is_text text (are.selectors s.0 text e)

pub define_is_text : (edits : List Edit) → AreLawful edits → (place : ℕ) (name : List ℕ) (parent : ClassId) (slots : List (List ℕ)) → slice_get edits place ≡ Some (Define name parent slots) → IsText name × IsText (class_text edits parent) × All IsText slots
define_is_text edits lawful place name parent slots at =
    let r : NoneApply (define_rules (take place edits) name parent slots) = none_apply (define_rules (take place edits) name parent slots) (lawful place (Define name parent slots) at) in
    let good = and_parts (is_class_name name) (list_all is_slot_name slots) (not-false (are_names name slots) r.1.0) in
    (class_name_is_text name good.0, class_is_text edits parent lawful, All-weaker (λ (t : List ℕ). is_slot_name t ≡ true) IsText slot_is_text slots (AllPass-from_list_all is_slot_name slots good.1))

pub edit_is_text : (names : List (List ℕ)) (edits : List Edit) → AreNames names → AreLawful edits → AllCompiled names edits → (place : ℕ) (e : Edit) → slice_get edits place ≡ Some e → EditIsText (edit_text names edits e)
edit_is_text names edits are lawful compiled place (Define name parent slots) at = define_is_text edits lawful place name parent slots at
edit_is_text names edits are lawful compiled place (Install c m) at =
    let from = compiled place c m at in
    (class_is_text edits c lawful, spelled_is_ascii from.method m.source from.spelled)
edit_is_text names edits are lawful compiled place (Remove c s) at = (class_is_text edits c lawful, name_is_text names s are)
edit_is_text names edits are lawful compiled place (Reparent c p) at = (class_is_text edits c lawful, class_is_text edits p lawful)

pub edits_are_text : (names : List (List ℕ)) (edits : List Edit) → AreNames names → AreLawful edits → AllCompiled names edits → All EditIsText (edit_texts names edits)
edits_are_text names edits are lawful compiled = All-map EditIsText (edit_text names edits) edits (all_there (λ (e : Edit). EditIsText (edit_text names edits e)) edits (edit_is_text names edits are lawful compiled))
