-- What is run fits: a method of the user's that is found suits its holder, on the chain.
use Rattle.std.proofs.Common.{refl, ◌≡◌, ℕ, ◌+◌, List, Option, Some, None, slice_get, ap, sym, ◌∙◌, length, subst, true, ◌&&◌, ◌==◌, eqb-true, option_and_then}
use Rattle.std.proofs.lemmas.Bool.{and_parts}
use Rattle.std.proofs.lemmas.Option.{option_and_then_some}
use Rattle.std.specs.List.{list_all}
use Rattle.st_classes.specs.declared.values.ClassId.{ClassId}
use Rattle.st_classes.specs.declared.values.Selector.{Selector}
use Rattle.st_classes.specs.declared.values.MethodId.{MethodId}
use Rattle.st_classes.specs.declared.methods.MethodParts.{MethodParts}
use Rattle.st_classes.specs.declared.edits.Edit.{Edit}
use Rattle.st_classes.specs.declared.edits.Edit.TheVariants.{Define, Install, Remove, Reparent}
use Rattle.st_classes.specs.declared.kernel.Found.{Found}
use Rattle.st_classes.specs.declared.kernel.Found.TheVariants.{User, Kernel as FoundKernel}
use Rattle.st_classes.specs.declared.kernel.Target.{Target}
use Rattle.st_classes.specs.declared.kernel.Target.TheVariants.{Run, Primitive, Missing}
use Rattle.st_classes.specs.Kernel.{does_not_understand}
use Rattle.st_classes.specs.Classes.{class_count, classes, own_slots, chain, parent, slots}
use Rattle.st_classes.specs.Walks.{walk, walk_from, super_walk, user_method, or_missing, target, super_target}
use Rattle.st_classes.specs.MethodSuits.{arity_at, is_number, instruction_suits, suits}
use Rattle.st_classes.specs.EditLists.{AreLawful, AllSuit, installed_method, method_at}
use Rattle.st_classes.proofs.LawLists.{slice_get_here}
use Rattle.st_classes.proofs.LawLookup.{same_class, first_stands, stands_at}
use Rattle.st_classes.proofs.LawChains.{Begins, begins_more, chain_begins, slots_above}

-- a method of the user's for a selector, whose holder's instance variables those of a class begin with
abbrev pub IsMethodFor : List (List ℕ) → List Edit → ClassId → Selector → MethodId → Type 0
IsMethodFor names edits c s m = (p : MethodParts) × (method_at edits m ≡ Some p) × (p.selector ≡ s) × Begins (slots edits c) (slots edits p.holder) × (suits names edits p.holder p ≡ true) × (slice_get edits m.0 ≡ Some (Install p.holder p))

holder_is : (names : List (List ℕ)) (edits : List Edit) (c : ClassId) (p : MethodParts) → suits names edits c p ≡ true → p.holder ≡ c
holder_is names edits c p h = same_class p.holder c (eqb-true p.holder.0 c.0 (and_parts (p.holder.0 == c.0) (is_number (arity_at names p.selector) p.arguments) (and_parts ((p.holder.0 == c.0) && is_number (arity_at names p.selector) p.arguments) (list_all (instruction_suits names (class_count edits) (length (slots edits c)) (p.arguments + p.temporaries)) p.code) h).0).0)

pub found_user : (names : List (List ℕ)) (edits : List Edit) (c : ClassId) (s : Selector) (m : MethodId) → AreLawful edits → AllSuit names edits → walk edits c s ≡ Some (User m) → IsMethodFor names edits c s m
found_user names edits c s m l all e =
    let w = first_stands edits (chain edits c) s m e in
    let h : ClassId = w.0.holder in
    let p : MethodParts = w.1.method in
    let at : slice_get edits m.0 ≡ Some (Install h p) = stands_at edits h s m w.1 in
    let fit = all m.0 h p at in
    let same : h ≡ p.holder = sym (holder_is names edits h p fit) in
    let on_chain : slice_get (chain edits c) (length w.0.before) ≡ Some h = ap (λ (cs : List ClassId). slice_get cs (length w.0.before)) w.0.along ∙ slice_get_here w.0.before h w.0.after in
    (p, ap (option_and_then installed_method) at, w.1.named, subst (λ (d : ClassId). Begins (slots edits c) (slots edits d)) same (chain_begins edits l c h (length w.0.before) on_chain), subst (λ (d : ClassId). suits names edits d p ≡ true) same fit, at ∙ ap (λ (d : ClassId). Some (Install d p)) same)

begins_wider : (names : List (List ℕ)) (edits : List Edit) (c d : ClassId) (s : Selector) (m : MethodId) → Begins (slots edits c) (slots edits d) → IsMethodFor names edits d s m → IsMethodFor names edits c s m
begins_wider names edits c d s m b w = (w.0, w.1, w.2, begins_more (slots edits c) (slots edits d) (slots edits w.0.holder) b w.3, w.4, w.5)

found_from : (names : List (List ℕ)) (edits : List Edit) (holder c : ClassId) (o : Option ClassId) (s : Selector) (m : MethodId) → AreLawful edits → AllSuit names edits → Begins (slots edits c) (slots edits holder) → parent edits holder ≡ o → walk_from edits o s ≡ Some (User m) → IsMethodFor names edits c s m
found_from names edits holder c None s m l all b up e = cc
found_from names edits holder c (Some p) s m l all b up e = begins_wider names edits c p s m (begins_more (slots edits c) (slots edits holder) (slots edits p) b (own_slots (classes edits) holder, slots_above edits holder p l up)) (found_user names edits p s m l all e)

-- the same of the walk that begins above a holder
pub found_user_above : (names : List (List ℕ)) (edits : List Edit) (holder c : ClassId) (s : Selector) (m : MethodId) → AreLawful edits → AllSuit names edits → Begins (slots edits c) (slots edits holder) → super_walk edits holder s ≡ Some (User m) → IsMethodFor names edits c s m
found_user_above names edits holder c s m l all b e = found_from names edits holder c (parent edits holder) s m l all b refl e

-- what a message to an instance of a class runs is for its selector, or for `doesNotUnderstand:`
abbrev pub IsTargetFor : List (List ℕ) → List Edit → ClassId → Selector → Target → Type 0
IsTargetFor names edits c s (Run m) = IsMethodFor names edits c s m
IsTargetFor names edits c s (Primitive k) = Unit {0}
IsTargetFor names edits c s (Missing (Some m)) = IsMethodFor names edits c does_not_understand m
IsTargetFor names edits c s (Missing None) = Unit {0}

missing_is : (names : List (List ℕ)) (edits : List Edit) (c : ClassId) (s : Selector) → AreLawful edits → AllSuit names edits → (o : Option Found) → walk edits c does_not_understand ≡ o → IsTargetFor names edits c s (Missing (user_method o))
missing_is names edits c s l all None e = tt
missing_is names edits c s l all (Some (User m)) e = found_user names edits c does_not_understand m l all e
missing_is names edits c s l all (Some (FoundKernel k)) e = tt

or_missing_is : (names : List (List ℕ)) (edits : List Edit) (c : ClassId) (s : Selector) → AreLawful edits → AllSuit names edits → (o : Option Found) → ((m : MethodId) → o ≡ Some (User m) → IsMethodFor names edits c s m) → IsTargetFor names edits c s (or_missing edits c o)
or_missing_is names edits c s l all None h = missing_is names edits c s l all (walk edits c does_not_understand) refl
or_missing_is names edits c s l all (Some (User m)) h = h m refl
or_missing_is names edits c s l all (Some (FoundKernel k)) h = tt

pub target_is : (names : List (List ℕ)) (edits : List Edit) (c : ClassId) (s : Selector) → AreLawful edits → AllSuit names edits → IsTargetFor names edits c s (target edits c s)
target_is names edits c s l all = or_missing_is names edits c s l all (walk edits c s) (λ m e. found_user names edits c s m l all e)

pub super_target_is : (names : List (List ℕ)) (edits : List Edit) (holder c : ClassId) (s : Selector) → AreLawful edits → AllSuit names edits → Begins (slots edits c) (slots edits holder) → IsTargetFor names edits c s (super_target edits holder c s)
super_target_is names edits holder c s l all b = or_missing_is names edits c s l all (super_walk edits holder s) (λ m e. found_user_above names edits holder c s m l all b e)

-- ---- a method of the table is an install's

-- it was installed at its holder, which it suits
abbrev pub IsInTable : List (List ℕ) → List Edit → MethodId → MethodParts → Type 0
IsInTable names edits m p = (slice_get edits m.0 ≡ Some (Install p.holder p)) × (suits names edits p.holder p ≡ true)

method_installed : (e : Edit) (p : MethodParts) → installed_method e ≡ Some p → (c : ClassId) × (e ≡ Install c p)
method_installed (Define name up added) p h = cc
method_installed (Install c q) p h = let s : q ≡ p = cc in (c, ap (λ (x : MethodParts). Install c x) s)
method_installed (Remove c s) p h = cc
method_installed (Reparent c d) p h = cc

pub installed_at : (edits : List Edit) (m : MethodId) (p : MethodParts) → method_at edits m ≡ Some p → (c : ClassId) × (slice_get edits m.0 ≡ Some (Install c p))
installed_at edits m p h = option_and_then_some installed_method (slice_get edits m.0) p h (λ e at is. let w = method_installed e p is in (w.0, at ∙ ap (λ (x : Edit). Some x) w.1))

pub in_table : (names : List (List ℕ)) (edits : List Edit) (m : MethodId) (p : MethodParts) → AllSuit names edits → method_at edits m ≡ Some p → IsInTable names edits m p
in_table names edits m p all h =
    let w = installed_at edits m p h in
    let fit = all m.0 w.0 p w.1 in
    let same : w.0 ≡ p.holder = sym (holder_is names edits w.0 p fit) in
    (w.1 ∙ ap (λ (c : ClassId). Some (Install c p)) same, subst (λ (c : ClassId). suits names edits c p ≡ true) same fit)
