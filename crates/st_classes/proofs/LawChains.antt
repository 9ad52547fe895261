-- Chains of superclasses in lawful edits, and the instance variables along them.
use Rattle.std.proofs.Common.{arith, refl, ◌≡◌, ℕ, ◌<◌, ◌≤◌, List, [], ◌∷◌, ◌++◌, Option, Some, None, slice_get, zero, suc, ap, sym, ◌∙◌, length, subst, append_assoc, append-nil, take, reverse, Bool, true, false, not, ◌||◌, nat_le, ltb-true, ltb-false, leb-false, flat_map, le_refl}
use Rattle.std.proofs.lemmas.Option.{slice_get-get_or}
use Rattle.std.proofs.lemmas.List.{take_all}
use Rattle.std.proofs.lemmas.Bool.{not-false}
use Rattle.std.proofs.lemmas.Slice.Eq.{slice_eq-Decides, bytes_eq-Decides}
use Rattle.std.specs.Str.{bytes_eq}
use Rattle.std.specs.Cmp.Lexicographic.{pointwise}
use Rattle.st_classes.specs.declared.values.ClassId.{ClassId}
use Rattle.st_classes.specs.declared.edits.Edit.{Edit}
use Rattle.st_classes.specs.declared.edits.Edit.TheVariants.{Define, Install, Remove, Reparent}
use Rattle.st_classes.specs.declared.refusals.Refusal.TheVariants.{UnknownClass, KernelClass, Cycle, SlotsDiffer, TooDeep, TooMany}
use Rattle.st_classes.specs.declared.refusals.Limited.TheVariants.{Edits}
use Rattle.st_classes.specs.Refusals.{first_of}
use Rattle.st_classes.specs.Classes.{IsForest, ClassDef, kernel_classes, reparented, classes_after, classes_from, classes, class_count, is_class, parent, parent_in, chain_of, chain, own_slots, slots, inherited}
use Rattle.st_classes.specs.EditRules.{is_kernel_class, is_value_class, is_among, has_too_deep, edit_rules}
use Rattle.st_classes.specs.EditLists.{AreLawful}
use Rattle.st_classes.proofs.LawLists.{take_at_place, no_rule}
use Rattle.st_classes.proofs.Chains.{forest_push, kernel_forest, flat_map_up}
use Rattle.st_classes.proofs.Reparenting.{forest_moved, slots_in, slots_of}

-- edits more make of the classes what they make of those before them
from_append : (cs : List ClassDef) (es fs : List Edit) → classes_from cs (es ++ fs) ≡ classes_from (classes_from cs es) fs
from_append cs [] fs = refl
from_append cs (e ∷ es) fs = from_append (classes_after cs e) es fs

pub classes_append : (es fs : List Edit) → classes (es ++ fs) ≡ classes_from (classes es) fs
classes_append es fs = from_append kernel_classes es fs

pub classes_push : (es : List Edit) (e : Edit) → classes (es ++ e ∷ []) ≡ classes_after (classes es) e
classes_push es e = classes_append es (e ∷ [])

-- the superclass of an accepted definition is a class whose chain has room
pub accepted_parent : (es : List Edit) (name : List ℕ) (up : ClassId) (added : List (List ℕ)) → first_of (edit_rules es (Define name up added)) ≡ None → (up.0 < class_count es) × (length (chain es up) < 64)
accepted_parent es name up added h = (
  ltb-true up.0 (class_count es) (not-false (is_class es up) (no_rule (edit_rules es (Define name up added)) 0 (not (is_class es up), UnknownClass) h refl)),
  leb-false 64 (length (chain es up)) (no_rule (edit_rules es (Define name up added)) 5 (nat_le 64 (length (chain es up)), TooDeep) h refl),
)

below : (a b : ℕ) → nat_le a b ≡ false → b < a
below a b h = leb-false a b h

-- a class that may get another superclass
pub record MayMove (es : List Edit) (c p : ClassId) : Type 0 where
  pub here : c.0 < class_count es
  pub there : p.0 < class_count es
  pub users : 8 ≤ c.0
  pub apart : is_among (chain es p) c ≡ false
  pub same : slots es p ≡ inherited es c
  pub shallow : has_too_deep (reparented (classes es) c.0 p) ≡ false
  pub few : nat_le 4096 (length es) ≡ false

or_first : (a b : Bool) → (a || b) ≡ false → a ≡ false
or_first true b h = cc
or_first false b h = refl

pub may_move : (es : List Edit) (c p : ClassId) → first_of (edit_rules es (Reparent c p)) ≡ None → MayMove es c p
may_move es c p h =
    let rules = edit_rules es (Reparent c p) in
    record {
      here = ltb-true c.0 (class_count es) (not-false (is_class es c) (no_rule rules 0 (not (is_class es c), UnknownClass) h refl));
      there = ltb-true p.0 (class_count es) (not-false (is_class es p) (no_rule rules 1 (not (is_class es p), UnknownClass) h refl));
      users = ltb-false c.0 8 (or_first (is_kernel_class c) (is_value_class p) (no_rule rules 2 (is_kernel_class c || is_value_class p, KernelClass) h refl));
      apart = no_rule rules 3 (is_among (chain es p) c, Cycle) h refl;
      same = (slice_eq-Decides bytes_eq-Decides (slots es p) (inherited es c) (pointwise bytes_eq (slots es p) (inherited es c)) refl).0 (not-false (pointwise bytes_eq (slots es p) (inherited es c)) (no_rule rules 4 (not (pointwise bytes_eq (slots es p) (inherited es c)), SlotsDiffer) h refl));
      shallow = no_rule rules 5 (has_too_deep (reparented (classes es) c.0 p), TooDeep) h refl;
      few = no_rule rules 6 (nat_le 4096 (length es), TooMany Edits) h refl;
    }

-- the instance variables that a class inherits, by its superclass
inherited_is : (es : List Edit) (c : ClassId) (o : Option ClassId) → parent es c ≡ o → inherited es c ≡ slots_of (classes es) o
inherited_is es c None e = rw e
inherited_is es c (Some p) e = rw e

-- the new superclass has what the old one has
pub moved_same : (es : List Edit) (c p : ClassId) → MayMove es c p → slots_in (classes es) p ≡ slots_of (classes es) (parent_in (classes es) c)
moved_same es c p m = m.same ∙ inherited_is es c (parent es c) refl

-- an accepted edit leaves the classes a forest
pub forest_after : (es : List Edit) (e : Edit) → IsForest (classes es) → first_of (edit_rules es e) ≡ None → IsForest (classes (es ++ e ∷ []))
forest_after es (Define name up added) g h =
    let a = accepted_parent es name up added h in
    subst IsForest (sym (classes_push es (Define name up added))) (forest_push (classes es) (record { name = name; parent = Some up; slots = added }) up g refl a.0 a.1)
forest_after es (Install c m) g h = subst IsForest (sym (classes_push es (Install c m))) g
forest_after es (Remove c s) g h = subst IsForest (sym (classes_push es (Remove c s))) g
forest_after es (Reparent c p) g h =
    let m = may_move es c p h in
    subst IsForest (sym (classes_push es (Reparent c p))) (forest_moved (classes es) c p g m.here m.there m.shallow)

forest_take : (edits : List Edit) → AreLawful edits → (n : ℕ) → n ≤ length edits → IsForest (classes (take n edits))
forest_take edits l zero h = kernel_forest
forest_take [] l (suc n) h = absurd (omega (arith, h))
forest_take (d ∷ edits) l (suc n) h =
    let e = slice_get-get_or (d ∷ edits) n d (omega (arith, h)) in
    subst (λ (es : List Edit). IsForest (classes es)) (sym (take_at_place (d ∷ edits) n _ e)) (forest_after (take n (d ∷ edits)) _ (forest_take (d ∷ edits) l n (omega (arith, h))) (l n _ e))

-- in lawful edits each superclass is a class, and its chain is the rest of the chain
pub forest : (edits : List Edit) → AreLawful edits → IsForest (classes edits)
forest edits l = subst (λ (es : List Edit). IsForest (classes es)) (take_all (length edits) edits (le_refl (length edits))) (forest_take edits l (length edits) (le_refl (length edits)))

-- ---- instance variables along a chain

pub chain_above : (edits : List Edit) (c p : ClassId) → AreLawful edits → parent edits c ≡ Some p → chain edits c ≡ c ∷ chain edits p
chain_above edits c p l e = (forest edits l).chains c p e

pub parent_is_class : (edits : List Edit) (c p : ClassId) → AreLawful edits → parent edits c ≡ Some p → p.0 < class_count edits
parent_is_class edits c p l e = (forest edits l).closed c p e

pub chain_at_top : (edits : List Edit) (c : ClassId) → parent edits c ≡ None → chain edits c ≡ c ∷ []
chain_at_top edits c e = ap (λ (o : Option ClassId). c ∷ chain_of (classes edits) 63 o) e

-- a class has the instance variables of its superclass, and then its own
pub slots_above : (edits : List Edit) (c p : ClassId) → AreLawful edits → parent edits c ≡ Some p → slots edits c ≡ slots edits p ++ own_slots (classes edits) c
slots_above edits c p l e = ap (λ (xs : List ClassId). flat_map (own_slots (classes edits)) (reverse xs)) (chain_above edits c p l e) ∙ flat_map_up (own_slots (classes edits)) c (chain edits p)

-- a list begins with another
abbrev pub Begins : List (List ℕ) → List (List ℕ) → Type 0
Begins xs ys = (rest : List (List ℕ)) × (xs ≡ ys ++ rest)

begins_same : (xs : List (List ℕ)) → Begins xs xs
begins_same xs = ([], sym (append-nil xs))

pub begins_more : (xs ys zs : List (List ℕ)) → Begins xs ys → Begins ys zs → Begins xs zs
begins_more xs ys zs a b = (b.0 ++ a.0, a.1 ∙ ap (λ (us : List (List ℕ)). us ++ a.0) b.1 ∙ append_assoc zs b.0 a.0)

-- at each class of a chain
chain_begins_in : (edits : List Edit) → AreLawful edits → (n : ℕ) (c : ClassId) (o : Option ClassId) (k : ℕ) (h : ClassId) → parent edits c ≡ o → length (chain edits c) ≤ n → slice_get (chain edits c) k ≡ Some h → Begins (slots edits c) (slots edits h)
chain_begins_in edits l zero c o k h up short at = absurd (omega (arith, short))
chain_begins_in edits l (suc n) c o zero h up short at = let s : c ≡ h = cc in subst (λ (x : ClassId). Begins (slots edits c) (slots edits x)) s (begins_same (slots edits c))
chain_begins_in edits l (suc n) c None (suc k) h up short at = let e : slice_get (c ∷ []) (suc k) ≡ Some h = ap (λ (xs : List ClassId). slice_get xs (suc k)) (sym (chain_at_top edits c up)) ∙ at in cc
chain_begins_in edits l (suc n) c (Some p) (suc k) h up short at =
    let e = chain_above edits c p l up in
    let shorter : length (chain edits p) ≤ n = omega (arith, short, ap length e) in
    begins_more (slots edits c) (slots edits p) (slots edits h) (own_slots (classes edits) c, slots_above edits c p l up) (chain_begins_in edits l n p (parent edits p) k h refl shorter (ap (λ (xs : List ClassId). slice_get xs (suc k)) (sym e) ∙ at))

-- the instance variables of a class begin with those of each class on its chain
pub chain_begins : (edits : List Edit) → AreLawful edits → (c h : ClassId) (k : ℕ) → slice_get (chain edits c) k ≡ Some h → Begins (slots edits c) (slots edits h)
chain_begins edits l c h k at = chain_begins_in edits l (length (chain edits c)) c (parent edits c) k h refl (le_refl (length (chain edits c))) at
