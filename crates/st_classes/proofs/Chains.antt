-- Chains of classes, and what one class more leaves as it was.
use Rattle.std.proofs.Common.{arith, refl, ◌≡◌, ℕ, ◌<◌, ◌≤◌, ◌⊎◌, List, [], ◌∷◌, ◌++◌, Option, Some, None, slice_get, zero, suc, ap, sym, ◌∙◌, length, subst, length-append, reverse, option_and_then, inl, inr, append-nil}
use Rattle.std.specs.List.{flat_map}
use Rattle.std.proofs.lemmas.Grind.{reverse_onto, flat_map-append}
use Rattle.std.proofs.lemmas.Option.{option_and_then_some, slice_get_within}
use Rattle.st_classes.specs.declared.values.ClassId.{ClassId}
use Rattle.st_classes.specs.Kernel.{class}
use Rattle.st_classes.specs.Classes.{IsForest, ClassDef, kernel_classes, parent_in, chain_of, own_slots}
use Rattle.st_classes.proofs.LawLists.{slice_get_old, slice_get_last, slice_get_push}

-- a chain that ends within its bound is whole
pub chain_more : (cs : List ClassDef) (n : ℕ) (o : Option ClassId) → length (chain_of cs (suc n) o) ≤ n → chain_of cs n o ≡ chain_of cs (suc n) o
chain_more cs zero None h = refl
chain_more cs zero (Some c) h = absurd (omega (arith, h))
chain_more cs (suc n) None h = refl
chain_more cs (suc n) (Some c) h = ap (λ (xs : List ClassId). c ∷ xs) (chain_more cs n (parent_in cs c) (omega (arith, h)))

parent_old : (cs ds : List ClassDef) (c : ClassId) → c.0 < length cs → parent_in (cs ++ ds) c ≡ parent_in cs c
parent_old cs ds c h = ap (option_and_then (λ (d : ClassDef). d.parent)) (slice_get_old cs ds c.0 h)

-- the chain of an old class
pub chain_old : (cs ds : List ClassDef) → IsForest cs → (n : ℕ) (o : Option ClassId) → ((c : ClassId) → o ≡ Some c → c.0 < length cs) → chain_of (cs ++ ds) n o ≡ chain_of cs n o
chain_old cs ds f zero o h = refl
chain_old cs ds f (suc n) None h = refl
chain_old cs ds f (suc n) (Some c) h = ap (λ (xs : List ClassId). c ∷ xs) (ap (chain_of (cs ++ ds) n) (parent_old cs ds c (h c refl)) ∙ chain_old cs ds f n (parent_in cs c) (λ p e. f.closed c p e))

-- a chain is longer than the one above it
pub chain_longer : (cs : List ClassDef) → IsForest cs → (c p : ClassId) → parent_in cs c ≡ Some p → length (chain_of cs 64 (Some p)) < length (chain_of cs 64 (Some c))
chain_longer cs f c p e = omega (arith, ap length (f.chains c p e))

-- ---- one class more

pub class_within : (cs : List ClassDef) (c : ClassId) (p : ClassId) → parent_in cs c ≡ Some p → c.0 < length cs
class_within cs c p e = option_and_then_some (λ (d : ClassDef). d.parent) (slice_get cs c.0) p e (λ d g h. slice_get_within cs c.0 d g)

-- the superclass of a class of the longer list is an old class's, or the new class's
parent_push : (cs : List ClassDef) (d : ClassDef) (c q : ClassId) → parent_in (cs ++ d ∷ []) c ≡ Some q → ((c.0 < length cs) × (parent_in cs c ≡ Some q)) ⊎ ((c.0 ≡ length cs) × (d.parent ≡ Some q))
parent_push cs d c q e = option_and_then_some (λ (x : ClassDef). x.parent) (slice_get (cs ++ d ∷ []) c.0) q e (λ x g h. elim (slice_get_push cs d x c.0 g) [ inl w ↦ inl (w.0, rw w.1 h) | inr w ↦ inr (w.0, ap (λ (y : ClassDef). y.parent) w.1 ∙ h) ])

-- the chain of a new class
pub chain_new : (cs : List ClassDef) (d : ClassDef) (c p : ClassId) → IsForest cs → d.parent ≡ Some p → p.0 < length cs → length (chain_of cs 64 (Some p)) < 64 → c.0 ≡ length cs → chain_of (cs ++ d ∷ []) 64 (Some c) ≡ c ∷ chain_of cs 64 (Some p)
chain_new cs d c p f e l short n =
    let at : parent_in (cs ++ d ∷ []) c ≡ Some p = ap (option_and_then (λ (x : ClassDef). x.parent)) (ap (slice_get (cs ++ d ∷ [])) n ∙ slice_get_last cs d) ∙ e in
    ap (λ (xs : List ClassId). c ∷ xs) (ap (chain_of (cs ++ d ∷ []) 63) at ∙ chain_old cs (d ∷ []) f 63 (Some p) (λ q g. let same : p ≡ q = cc in subst (λ (x : ClassId). x.0 < length cs) same l) ∙ chain_more cs 63 (Some p) (omega (arith, short)))

pub forest_push : (cs : List ClassDef) (d : ClassDef) (p : ClassId) → IsForest cs → d.parent ≡ Some p → p.0 < length cs → length (chain_of cs 64 (Some p)) < 64 → IsForest (cs ++ d ∷ [])
forest_push cs d p f e l short = record {
  closed = λ c q g. elim (parent_push cs d c q g) [ inl w ↦ omega (arith, f.closed c q w.1, length-append cs (d ∷ [])) | inr w ↦ let same : p ≡ q = cc in subst (λ (x : ClassId). x.0 < length (cs ++ d ∷ [])) same (omega (arith, l, length-append cs (d ∷ []))) ];
  chains = λ c q g. elim (parent_push cs d c q g) [
    | inl w ↦ chain_old cs (d ∷ []) f 64 (Some c) (λ x h. let same : c ≡ x = cc in subst (λ (y : ClassId). y.0 < length cs) same w.0) ∙ f.chains c q w.1 ∙ ap (λ (xs : List ClassId). c ∷ xs) (sym (chain_old cs (d ∷ []) f 64 (Some q) (λ x h. let same : q ≡ x = cc in subst (λ (y : ClassId). y.0 < length cs) same (f.closed c q w.1))))
    | inr w ↦
        let same : p ≡ q = cc in
        subst (λ (x : ClassId). chain_of (cs ++ d ∷ []) 64 (Some c) ≡ c ∷ chain_of (cs ++ d ∷ []) 64 (Some x)) same (chain_new cs d c p f e l short w.0 ∙ ap (λ (xs : List ClassId). c ∷ xs) (sym (chain_old cs (d ∷ []) f 64 (Some p) (λ x h. let here : p ≡ x = cc in subst (λ (y : ClassId). y.0 < length cs) here l))))
  ];
}

-- ---- the kernel's classes

-- the superclass of a kernel class is Object
pub kernel_parent : (n : ℕ) (p : ClassId) → parent_in kernel_classes (class n) ≡ Some p → (p ≡ class 0) × (chain_of kernel_classes 64 (Some (class n)) ≡ class n ∷ chain_of kernel_classes 64 (Some (class 0)))
kernel_parent zero p e = cc
kernel_parent (suc zero) p e = (cc, refl)
kernel_parent (suc (suc zero)) p e = (cc, refl)
kernel_parent (suc (suc (suc zero))) p e = (cc, refl)
kernel_parent (suc (suc (suc (suc zero)))) p e = (cc, refl)
kernel_parent (suc (suc (suc (suc (suc zero))))) p e = (cc, refl)
kernel_parent (suc (suc (suc (suc (suc (suc zero)))))) p e = (cc, refl)
kernel_parent (suc (suc (suc (suc (suc (suc (suc zero))))))) p e = (cc, refl)
kernel_parent (suc (suc (suc (suc (suc (suc (suc (suc n)))))))) p e = cc

pub kernel_forest : IsForest kernel_classes
kernel_forest = record {
  closed = λ c p e. let k = kernel_parent c.0 p e in subst (λ (x : ClassId). x.0 < 8) (sym k.0) (omega arith);
  chains = λ c p e. let k = kernel_parent c.0 p e in subst (λ (x : ClassId). chain_of kernel_classes 64 (Some c) ≡ c ∷ chain_of kernel_classes 64 (Some x)) (sym k.0) k.1;
}

-- ---- instance variables

-- what a chain has is what the chain above has, and then what its class has
pub flat_map_up : (f : ClassId → List (List ℕ)) (c : ClassId) (xs : List ClassId) → flat_map f (reverse (c ∷ xs)) ≡ flat_map f (reverse xs) ++ f c
flat_map_up f c xs = ap (flat_map f) (reverse_onto xs c []) ∙ flat_map-append f (reverse xs) (c ∷ []) ∙ ap (λ (ys : List (List ℕ)). flat_map f (reverse xs) ++ ys) (append-nil (f c))

own_slots_old : (cs ds : List ClassDef) (c : ClassId) → c.0 < length cs → own_slots (cs ++ ds) c ≡ own_slots cs c
own_slots_old cs ds c h = rw (slice_get_old cs ds c.0 h)

own_slots_new : (cs : List ClassDef) (d : ClassDef) (c : ClassId) → c.0 ≡ length cs → own_slots (cs ++ d ∷ []) c ≡ d.slots
own_slots_new cs d c n = rw (ap (slice_get (cs ++ d ∷ [])) n ∙ slice_get_last cs d)

-- the instance variables along an old chain
pub slots_old : (cs ds : List ClassDef) → IsForest cs → (n : ℕ) (o : Option ClassId) → ((c : ClassId) → o ≡ Some c → c.0 < length cs) → flat_map (own_slots (cs ++ ds)) (reverse (chain_of cs n o)) ≡ flat_map (own_slots cs) (reverse (chain_of cs n o))
slots_old cs ds f zero o h = refl
slots_old cs ds f (suc n) None h = refl
slots_old cs ds f (suc n) (Some c) h =
    let xs : List ClassId = chain_of cs n (parent_in cs c) in
    let above : flat_map (own_slots (cs ++ ds)) (reverse xs) ≡ flat_map (own_slots cs) (reverse xs) = slots_old cs ds f n (parent_in cs c) (λ p e. f.closed c p e) in
    flat_map_up (own_slots (cs ++ ds)) c xs ∙ ap (λ (ys : List (List ℕ)). ys ++ own_slots (cs ++ ds) c) above ∙ ap (λ (ys : List (List ℕ)). flat_map (own_slots cs) (reverse xs) ++ ys) (own_slots_old cs ds c (h c refl)) ∙ sym (flat_map_up (own_slots cs) c xs)

-- the instance variables of a new class: its superclass's and its own
pub slots_new : (cs : List ClassDef) (d : ClassDef) (c p : ClassId) → IsForest cs → d.parent ≡ Some p → p.0 < length cs → length (chain_of cs 64 (Some p)) < 64 → c.0 ≡ length cs → flat_map (own_slots (cs ++ d ∷ [])) (reverse (chain_of (cs ++ d ∷ []) 64 (Some c))) ≡ flat_map (own_slots cs) (reverse (chain_of cs 64 (Some p))) ++ d.slots
slots_new cs d c p f e l short n =
    ap (λ (xs : List ClassId). flat_map (own_slots (cs ++ d ∷ [])) (reverse xs)) (chain_new cs d c p f e l short n)
    ∙ flat_map_up (own_slots (cs ++ d ∷ [])) c (chain_of cs 64 (Some p))
    ∙ ap (λ (ys : List (List ℕ)). ys ++ own_slots (cs ++ d ∷ []) c) (slots_old cs (d ∷ []) f 64 (Some p) (λ x h. let here : p ≡ x = cc in subst (λ (y : ClassId). y.0 < length cs) here l))
    ∙ ap (λ (ys : List (List ℕ)). flat_map (own_slots cs) (reverse (chain_of cs 64 (Some p))) ++ ys) (own_slots_new cs d c n)
