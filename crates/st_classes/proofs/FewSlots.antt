-- A class has 64 instance variables at most.
use Rattle.std.proofs.Common.{◌≡◌, ℕ, zero, suc, ◌<◌, ◌≤◌, Bool, true, false, nat_lt, ltb, List, [], ◌∷◌, ◌++◌, length, take, Some, None, refl, sym, ap, subst, length-append, le_refl, arith}
use Rattle.std.proofs.lemmas.Bool.{ltb-true, ltb-false}
use Rattle.std.proofs.lemmas.List.{take_all}
use Rattle.std.proofs.lemmas.Option.{slice_get-get_or, slice_get_past}
use Rattle.st_classes.specs.declared.values.ClassId.{ClassId}
use Rattle.st_classes.specs.declared.edits.Edit.{Edit}
use Rattle.st_classes.specs.declared.edits.Edit.TheVariants.{Define, Install, Remove, Reparent}
use Rattle.st_classes.specs.declared.refusals.Refusal.TheVariants.{TooMany}
use Rattle.st_classes.specs.declared.refusals.Limited.TheVariants.{Slots}
use Rattle.st_classes.specs.EditRules.{edit_rules}
use Rattle.st_classes.specs.Classes.{IsForest, ClassDef, kernel_classes, classes, slots, own_slots, chain_of}
use Rattle.st_classes.specs.Kernel.{class}
use Rattle.st_classes.specs.EditLists.{AreLawful}
use Rattle.st_classes.specs.Refusals.{first_of}
use Rattle.st_classes.proofs.Chains.{kernel_forest, slots_new}
use Rattle.st_classes.proofs.LawLists.{take_at_place, no_rule}
use Rattle.st_classes.proofs.LawChains.{accepted_parent, classes_push, forest_after, may_move, moved_same}
use Rattle.st_classes.proofs.Reparenting.{forest_moved, slots_in, slots_moved}
use Rattle.st_classes.proofs.LawGrowing.{slots_in_old}

-- each class has few
abbrev Few : List ClassDef → Type 0
Few cs = (c : ClassId) → length (slots_in cs c) ≤ 64

-- a number that is no class's has none
none_in : (cs : List ClassDef) (c : ClassId) → length cs ≤ c.0 → slots_in cs c ≡ []
none_in cs c h =
    let past = slice_get_past cs c.0 h in
    let own : own_slots cs c ≡ [] = rw past refl in
    rw past (ap (λ (xs : List (List ℕ)). xs ++ []) own)

-- so it is with a class more that has few
module _ (cs : List ClassDef) (d : ClassDef) (p : ClassId) (g : IsForest cs) (up : d.parent ≡ Some p) (here : p.0 < length cs) (shallow : length (chain_of cs 64 (Some p)) < 64) (fits : length (slots_in cs p ++ d.slots) ≤ 64) where
  few_more : Few cs → Few (cs ++ d ∷ [])
  few_more few c = old (ltb c.0 (length cs)) refl
    where
      beyond : (b : Bool) → ltb (length cs) c.0 ≡ b → length cs ≤ c.0 → length (slots_in (cs ++ d ∷ []) c) ≤ 64
      beyond true e h = omega (arith, ap length (none_in (cs ++ d ∷ []) c (omega (arith, ltb-true (length cs) c.0 e, length-append cs (d ∷ [])))))
      beyond false e h = omega (arith, ap length (slots_new cs d c p g up here shallow (omega (arith, h, ltb-false (length cs) c.0 e))), fits)

      old : (b : Bool) → ltb c.0 (length cs) ≡ b → length (slots_in (cs ++ d ∷ []) c) ≤ 64
      old true e = omega (arith, ap length (slots_in_old cs (d ∷ []) c g (ltb-true c.0 (length cs) e)), few c)
      old false e = beyond (ltb (length cs) c.0) refl (ltb-false c.0 (length cs) e)

few_after : (es : List Edit) (e : Edit) → IsForest (classes es) → Few (classes es) → first_of (edit_rules es e) ≡ None → Few (classes (es ++ e ∷ []))
few_after es (Define name up added) g few h =
    let a = accepted_parent es name up added h in
    let fits = ltb-false 64 (length (slots es up ++ added)) (no_rule (edit_rules es (Define name up added)) 7 (nat_lt 64 (length (slots es up ++ added)), TooMany Slots) h refl) in
    subst Few (sym (classes_push es (Define name up added))) (few_more (classes es) (record { name = name; parent = Some up; slots = added }) up g refl a.0 a.1 fits few)
few_after es (Install c m) g few h = subst Few (sym (classes_push es (Install c m))) few
few_after es (Remove c s) g few h = subst Few (sym (classes_push es (Remove c s))) few
few_after es (Reparent c p) g few h =
    let m = may_move es c p h in
    subst Few (sym (classes_push es (Reparent c p))) (λ d. omega (arith, few d, ap length (slots_moved (classes es) c p g (forest_moved (classes es) c p g m.here m.there m.shallow) m.here (moved_same es c p m) d)))

few_kernel : (n : ℕ) → length (slots_in kernel_classes (class n)) ≤ 64
few_kernel zero = omega arith
few_kernel (suc zero) = omega arith
few_kernel (suc (suc zero)) = omega arith
few_kernel (suc (suc (suc zero))) = omega arith
few_kernel (suc (suc (suc (suc zero)))) = omega arith
few_kernel (suc (suc (suc (suc (suc zero))))) = omega arith
few_kernel (suc (suc (suc (suc (suc (suc zero)))))) = omega arith
few_kernel (suc (suc (suc (suc (suc (suc (suc zero))))))) = omega arith
few_kernel (suc (suc (suc (suc (suc (suc (suc (suc n)))))))) = omega arith

record Both (cs : List ClassDef) : Type 0 where
  forest : IsForest cs
  few : Few cs

both_taken : (edits : List Edit) → AreLawful edits → (n : ℕ) → n ≤ length edits → Both (classes (take n edits))
both_taken edits l zero h = record { forest = kernel_forest; few = λ c. few_kernel c.0 }
both_taken [] l (suc n) h = absurd (omega (arith, h))
both_taken (d ∷ edits) l (suc n) h =
    let e = slice_get-get_or (d ∷ edits) n d (omega (arith, h)) in
    let b = both_taken (d ∷ edits) l n (omega (arith, h)) in
    subst (λ (es : List Edit). Both (classes es)) (sym (take_at_place (d ∷ edits) n _ e)) (record { forest = forest_after (take n (d ∷ edits)) _ b.forest (l n _ e); few = few_after (take n (d ∷ edits)) _ b.forest b.few (l n _ e) })

-- in lawful edits each class has few
pub few_slots : (edits : List Edit) → AreLawful edits → (c : ClassId) → length (slots edits c) ≤ 64
few_slots edits l = subst (λ (es : List Edit). Few (classes es)) (take_all (length edits) edits (le_refl (length edits))) (both_taken edits l (length edits) (le_refl (length edits))).few
