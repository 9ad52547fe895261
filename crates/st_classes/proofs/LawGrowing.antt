-- What stands of a class table stands of it with more edits and more names.
use Rattle.std.proofs.Common.{arith, refl, ◌≡◌, ℕ, ◌+◌, ◌<◌, ◌≤◌, List, [], ◌∷◌, ◌++◌, Option, Some, None, slice_get, ap, ap₂, sym, ◌∙◌, length, subst, length-append, append_assoc, append-nil, take, drop, take-append-drop, inl, inr, true, not, ◌&&◌, ◌==◌, nat_lt, ltb-true, lt-ltb, eq-eqb, eqb-true, reverse, option_and_then, flat_map, le_refl}
use Rattle.std.specs.List.{list_all}
use Rattle.std.proofs.lemmas.Bool.{not-false, and_parts, and_from}
use Rattle.std.proofs.lemmas.Option.{option_and_then_some, slice_get_within}
use Rattle.st_classes.specs.declared.values.ClassId.{ClassId}
use Rattle.st_classes.specs.declared.values.Selector.{Selector}
use Rattle.st_classes.specs.declared.values.MethodId.{MethodId}
use Rattle.st_classes.specs.declared.values.Value.{Value}
use Rattle.st_classes.specs.declared.values.Value.TheVariants.{Int, Bool as Boolean, Nil, Sym, Class, Actor, Local}
use Rattle.st_classes.specs.declared.instructions.Instruction.{Instruction}
use Rattle.st_classes.specs.declared.instructions.Instruction.TheVariants.{PushLit, PushSelf, PushActor, PushTemp, PushSlot, StoreTemp, StoreSlot, Pop, Dup, Send, SuperSend, Jump, JumpFalse, JumpTrue, Answer}
use Rattle.st_classes.specs.declared.methods.MethodParts.{MethodParts}
use Rattle.st_classes.specs.declared.edits.Edit.{Edit}
use Rattle.st_classes.specs.declared.edits.Edit.TheVariants.{Define, Install, Remove, Reparent}
use Rattle.st_classes.specs.declared.refusals.Refusal.TheVariants.{UnknownClass}
use Rattle.st_classes.specs.Refusals.{first_of}
use Rattle.st_classes.specs.Kernel.{kernel_selectors, does_not_understand}
use Rattle.st_classes.specs.Classes.{IsForest, ClassDef, kernel_classes, classes_after, classes_from, classes, class_count, is_class, own_slots, slots}
use Rattle.st_classes.specs.EditRules.{edit_rules}
use Rattle.st_classes.specs.Selectors.{arity_of}
use Rattle.st_classes.specs.MethodSuits.{arity_at, is_number, is_there, instruction_suits, suits, edit_suits}
use Rattle.st_classes.specs.EditLists.{AreLawful, AllSuit, installed_method, method_at}
use Rattle.st_classes.proofs.LawLists.{slice_get_here, slice_get_old, slice_get_push, slice_get_kept, take_old, take_whole, list_all_weaker, no_rule}
use Rattle.st_classes.proofs.Chains.{chain_old, slots_old}
use Rattle.st_classes.proofs.Reparenting.{forest_moved, reparented_long, slots_in, slots_moved}
use Rattle.st_classes.proofs.LawChains.{forest, classes_append, classes_push, may_move, moved_same}

-- ---- accepted edits

-- an accepted edit is lawful behind those before it
pub lawful_with : (edits : List Edit) (e : Edit) → AreLawful edits → first_of (edit_rules edits e) ≡ None → AreLawful (edits ++ e ∷ [])
lawful_with edits e l h = λ place d at. elim (slice_get_push edits e d place at) [
  | inl w ↦ ap (λ (es : List Edit). first_of (edit_rules es d)) (take_old edits (e ∷ []) place (omega (arith, w.0))) ∙ l place d w.1
  | inr w ↦ ap (λ (n : ℕ). first_of (edit_rules (take n (edits ++ e ∷ [])) d)) w.0 ∙ ap₂ (λ (es : List Edit) (x : Edit). first_of (edit_rules es x)) (take_whole edits (e ∷ [])) (sym w.1) ∙ h
]

-- edits that were accepted begin with edits that were accepted
pub lawful_before : (edits more : List Edit) → AreLawful (edits ++ more) → AreLawful edits
lawful_before edits more l place e at = ap (λ (es : List Edit). first_of (edit_rules es e)) (sym (take_old edits more place (omega (arith, slice_get_within edits place e at)))) ∙ l place e (slice_get_kept edits more place e at)

-- the first of more edits was accepted
pub lawful_next : (edits : List Edit) (e : Edit) (more : List Edit) → AreLawful (edits ++ e ∷ more) → first_of (edit_rules edits e) ≡ None
lawful_next edits e more l = ap (λ (es : List Edit). first_of (edit_rules es e)) (sym (take_whole edits (e ∷ more))) ∙ l (length edits) e (slice_get_here edits e more)

-- ---- classes

after_grows : (cs : List ClassDef) (e : Edit) → length cs ≤ length (classes_after cs e)
after_grows cs (Define name up added) = omega (arith, length-append cs (record { name = name; parent = Some up; slots = added } ∷ []))
after_grows cs (Install c m) = le_refl (length cs)
after_grows cs (Remove c s) = le_refl (length cs)
after_grows cs (Reparent c p) = omega (arith, reparented_long cs c.0 p)

from_grows : (cs : List ClassDef) (es : List Edit) → length cs ≤ length (classes_from cs es)
from_grows cs [] = le_refl (length cs)
from_grows cs (e ∷ es) = omega (arith, after_grows cs e, from_grows (classes_after cs e) es)

pub class_count_grows : (edits more : List Edit) → class_count edits ≤ class_count (edits ++ more)
class_count_grows edits more = omega (arith, ap (λ (cs : List ClassDef). length cs) (classes_append edits more), from_grows (classes edits) more)

-- the kernel's classes are classes
pub kernel_counted : (edits : List Edit) → 8 ≤ class_count edits
kernel_counted edits = from_grows kernel_classes edits

-- classes stay classes
pub class_stays : (edits more : List Edit) (c : ClassId) → is_class edits c ≡ true → is_class (edits ++ more) c ≡ true
class_stays edits more c h = lt-ltb c.0 (class_count (edits ++ more)) (omega (arith, ltb-true c.0 (class_count edits) h, class_count_grows edits more))

pub slots_in_old : (cs ds : List ClassDef) (c : ClassId) → IsForest cs → c.0 < length cs → slots_in (cs ++ ds) c ≡ slots_in cs c
slots_in_old cs ds c g h =
    let here : (d : ClassId) → Some c ≡ Some d → d.0 < length cs = λ d e. let s : c ≡ d = cc in subst (λ (x : ClassId). x.0 < length cs) s h in
    ap (λ (xs : List ClassId). flat_map (own_slots (cs ++ ds)) (reverse xs)) (chain_old cs ds g 64 (Some c) here) ∙ slots_old cs ds g 64 (Some c) here

-- the instance variables of a class stay with an accepted edit
slots_after : (edits : List Edit) (e : Edit) (c : ClassId) → IsForest (classes edits) → first_of (edit_rules edits e) ≡ None → c.0 < class_count edits → slots_in (classes_after (classes edits) e) c ≡ slots_in (classes edits) c
slots_after edits (Define name up added) c f h here = slots_in_old (classes edits) (record { name = name; parent = Some up; slots = added } ∷ []) c f here
slots_after edits (Install d m) c f h here = refl
slots_after edits (Remove d s) c f h here = refl
slots_after edits (Reparent d p) c f h here =
    let m = may_move edits d p h in
    slots_moved (classes edits) d p f (forest_moved (classes edits) d p f m.here m.there m.shallow) m.here (moved_same edits d p m) c

-- and with all later edits
pub slots_stay : (edits more : List Edit) (c : ClassId) → AreLawful (edits ++ more) → c.0 < class_count edits → slots (edits ++ more) c ≡ slots edits c
slots_stay edits [] c l h = ap (λ (es : List Edit). slots es c) (append-nil edits)
slots_stay edits (e ∷ more) c l h =
    let joined : (edits ++ e ∷ []) ++ more ≡ edits ++ e ∷ more = append_assoc edits (e ∷ []) more in
    let all : AreLawful ((edits ++ e ∷ []) ++ more) = subst AreLawful (sym joined) l in
    ap (λ (es : List Edit). slots es c) (sym joined)
    ∙ slots_stay (edits ++ e ∷ []) more c all (omega (arith, h, class_count_grows edits (e ∷ [])))
    ∙ ap (λ (cs : List ClassDef). slots_in cs c) (classes_push edits e)
    ∙ slots_after edits e c (forest edits (lawful_before edits (e ∷ more) l)) (lawful_next edits e more l) h

-- the methods of a table stay
pub method_stays : (edits more : List Edit) (m : MethodId) (p : MethodParts) → method_at edits m ≡ Some p → method_at (edits ++ more) m ≡ Some p
method_stays edits more m p h = option_and_then_some installed_method (slice_get edits m.0) p h (λ e at is. ap (option_and_then installed_method) (slice_get_kept edits more m.0 e at) ∙ is)

pub method_at_old : (edits more : List Edit) (m : MethodId) → m.0 < length edits → method_at (edits ++ more) m ≡ method_at edits m
method_at_old edits more m h = ap (option_and_then installed_method) (slice_get_old edits more m.0 h)

-- the class of an accepted install is a class
pub accepted_class : (edits : List Edit) (c : ClassId) (m : MethodParts) → first_of (edit_rules edits (Install c m)) ≡ None → c.0 < class_count edits
accepted_class edits c m h = ltb-true c.0 (class_count edits) (not-false (is_class edits c) (no_rule (edit_rules edits (Install c m)) 0 (not (is_class edits c), UnknownClass) h refl))

pub installed_class : (edits : List Edit) (place : ℕ) (c : ClassId) (m : MethodParts) → AreLawful edits → slice_get edits place ≡ Some (Install c m) → c.0 < class_count edits
installed_class edits place c m l at =
    let early = accepted_class (take place edits) c m (l place (Install c m) at) in
    subst (λ (es : List Edit). c.0 < class_count es) (take-append-drop place edits) (omega (arith, early, class_count_grows (take place edits) (drop place edits)))

-- ---- methods that suit

-- names that have all that others have, at the same places
pub record Extends (names others : List (List ℕ)) : Type 0 where
  pub long : length names ≤ length others
  pub numbers : (s : Selector) (n : ℕ) → arity_at names s ≡ Some n → arity_at others s ≡ Some n

pub extends_self : (names : List (List ℕ)) → Extends names names
extends_self names = record { long = le_refl (length names); numbers = λ s n h. h }

pub extends_more : (names more : List (List ℕ)) → Extends names (names ++ more)
extends_more names more = record {
  long = omega (arith, length-append names more);
  numbers = λ s n h. option_and_then_some arity_of (slice_get names s.0) n h (λ text at is. ap (option_and_then arity_of) (slice_get_kept names more s.0 text at) ∙ is);
}

pub number_is : (o : Option ℕ) (n : ℕ) → is_number o n ≡ true → o ≡ Some n
number_is None n h = cc
number_is (Some m) n h = ap (λ (k : ℕ). Some k) (eqb-true m n h)

pub number_grows : (names others : List (List ℕ)) → Extends names others → (s : Selector) (n : ℕ) → is_number (arity_at names s) n ≡ true → is_number (arity_at others s) n ≡ true
number_grows names others x s n h = ap (λ (o : Option ℕ). is_number o n) (x.numbers s n (number_is (arity_at names s) n h)) ∙ eq-eqb n n refl

below_grows : (n k j : ℕ) → k ≤ j → nat_lt n k ≡ true → nat_lt n j ≡ true
below_grows n k j h e = lt-ltb n j (omega (arith, h, ltb-true n k e))

-- what is there is there among more
pub there_grows : (names others : List (List ℕ)) (classes wide actors many objects more : ℕ) → length names ≤ length others → classes ≤ wide → actors ≤ many → objects ≤ more → (v : Value) → is_there names classes actors objects v ≡ true → is_there others wide many more v ≡ true
there_grows names others classes wide actors many objects more n c a o (Int z) h = refl
there_grows names others classes wide actors many objects more n c a o (Boolean b) h = refl
there_grows names others classes wide actors many objects more n c a o Nil h = refl
there_grows names others classes wide actors many objects more n c a o (Sym s) h = below_grows s.0 (length names) (length others) n h
there_grows names others classes wide actors many objects more n c a o (Class k) h = below_grows k.0 classes wide c h
there_grows names others classes wide actors many objects more n c a o (Actor k) h = below_grows k.0 actors many a h
there_grows names others classes wide actors many objects more n c a o (Local k) h = below_grows k objects more o h

instruction_grows : (names others : List (List ℕ)) (count wide slots temps : ℕ) → Extends names others → count ≤ wide → (i : Instruction) → instruction_suits names count slots temps i ≡ true → instruction_suits others wide slots temps i ≡ true
instruction_grows names others count wide slots temps x w (PushLit v) h = there_grows names others count wide 0 0 0 0 x.long w (le_refl 0) (le_refl 0) v h
instruction_grows names others count wide slots temps x w PushSelf h = refl
instruction_grows names others count wide slots temps x w PushActor h = refl
instruction_grows names others count wide slots temps x w (PushTemp i) h = h
instruction_grows names others count wide slots temps x w (PushSlot i) h = h
instruction_grows names others count wide slots temps x w (StoreTemp i) h = h
instruction_grows names others count wide slots temps x w (StoreSlot i) h = h
instruction_grows names others count wide slots temps x w Pop h = refl
instruction_grows names others count wide slots temps x w Dup h = refl
instruction_grows names others count wide slots temps x w (Send s n) h = number_grows names others x s n h
instruction_grows names others count wide slots temps x w (SuperSend s n) h = number_grows names others x s n h
instruction_grows names others count wide slots temps x w (Jump d) h = refl
instruction_grows names others count wide slots temps x w (JumpFalse d) h = refl
instruction_grows names others count wide slots temps x w (JumpTrue d) h = refl
instruction_grows names others count wide slots temps x w Answer h = refl

-- a method that suits suits more names, and a table with more classes where its own has the same instance variables
pub suits_grows : (names others : List (List ℕ)) (edits later : List Edit) (c : ClassId) (m : MethodParts) → Extends names others → class_count edits ≤ class_count later → slots later c ≡ slots edits c → suits names edits c m ≡ true → suits others later c m ≡ true
suits_grows names others edits later c m x w same h =
    let was = instruction_suits names (class_count edits) (length (slots edits c)) (m.arguments + m.temporaries) in
    let now = instruction_suits others (class_count later) (length (slots edits c)) (m.arguments + m.temporaries) in
    let outer = and_parts ((m.holder.0 == c.0) && is_number (arity_at names m.selector) m.arguments) (list_all was m.code) h in
    let inner = and_parts (m.holder.0 == c.0) (is_number (arity_at names m.selector) m.arguments) outer.0 in
    subst (λ (xs : List (List ℕ)). ((m.holder.0 == c.0) && is_number (arity_at others m.selector) m.arguments && list_all (instruction_suits others (class_count later) (length xs) (m.arguments + m.temporaries)) m.code) ≡ true) (sym same) (and_from ((m.holder.0 == c.0) && is_number (arity_at others m.selector) m.arguments) (list_all now m.code) (and_from (m.holder.0 == c.0) (is_number (arity_at others m.selector) m.arguments) inner.0 (number_grows names others x m.selector m.arguments inner.1)) (list_all_weaker was now (instruction_grows names others (class_count edits) (class_count later) (length (slots edits c)) (m.arguments + m.temporaries) x w) m.code outer.1))

-- more edits
pub suits_later : (names : List (List ℕ)) (edits more : List Edit) (c : ClassId) (m : MethodParts) → AreLawful (edits ++ more) → c.0 < class_count edits → suits names edits c m ≡ true → suits names (edits ++ more) c m ≡ true
suits_later names edits more c m l here h = suits_grows names names edits (edits ++ more) c m (extends_self names) (class_count_grows edits more) (slots_stay edits more c l here) h

-- more names
pub suits_more_names : (names more : List (List ℕ)) (edits : List Edit) (c : ClassId) (m : MethodParts) → suits names edits c m ≡ true → suits (names ++ more) edits c m ≡ true
suits_more_names names more edits c m h = suits_grows names (names ++ more) edits edits c m (extends_more names more) (le_refl (class_count edits)) refl h

pub all_suit_more_names : (names more : List (List ℕ)) (edits : List Edit) → AllSuit names edits → AllSuit (names ++ more) edits
all_suit_more_names names more edits all = λ place c m at. suits_more_names names more edits c m (all place c m at)

-- an accepted edit whose method suits
pub all_suit_with : (names : List (List ℕ)) (edits : List Edit) (e : Edit) → AreLawful edits → first_of (edit_rules edits e) ≡ None → AllSuit names edits → edit_suits names edits e ≡ true → AllSuit names (edits ++ e ∷ [])
all_suit_with names edits e l ok all h = λ place c m at. elim (slice_get_push edits e (Install c m) place at) [
  | inl w ↦ suits_later names edits (e ∷ []) c m (lawful_with edits e l ok) (installed_class edits place c m l w.1) (all place c m w.1)
  | inr w ↦ suits_later names edits (e ∷ []) c m (lawful_with edits e l ok) (accepted_class edits c m (subst (λ (x : Edit). first_of (edit_rules edits x) ≡ None) w.1 ok)) (subst (λ (x : Edit). edit_suits names edits x ≡ true) w.1 h)
]

-- names that begin with the kernel's have `doesNotUnderstand:`, with one argument
pub kernel_names_know : (more : List (List ℕ)) → arity_at (kernel_selectors ++ more) does_not_understand ≡ Some 1
kernel_names_know more = refl
