-- What stands in the table: the last edit decides, and the walk finds the first on the chain.
use Rattle.std.proofs.Common.{arith, refl, ◌≡◌, ◌↔◌, ◌⊎◌, ℕ, ◌+◌, List, [], ◌∷◌, ◌++◌, All, Option, Some, None, slice_get, ap, sym, ◌∙◌, length, subst, inl, inr, if◌then◌else◌, Bool, true, false, ◌==◌, eqb-true, eq-eqb, option_map}
use Rattle.std.proofs.lemmas.Bool.{and_parts, and_from}
use Rattle.std.proofs.lemmas.List.Elements.{All-nil, All-cons, All-head, All-tail}
use Rattle.st_classes.specs.declared.values.ClassId.{ClassId}
use Rattle.st_classes.specs.declared.values.Selector.{Selector}
use Rattle.st_classes.specs.declared.values.MethodId.{MethodId}
use Rattle.st_classes.specs.declared.methods.MethodParts.{MethodParts}
use Rattle.st_classes.specs.declared.edits.Edit.{Edit}
use Rattle.st_classes.specs.declared.edits.Edit.TheVariants.{Define, Install, Remove, Reparent}
use Rattle.st_classes.specs.declared.kernel.Kernel.{Kernel}
use Rattle.st_classes.specs.declared.kernel.Found.{Found}
use Rattle.st_classes.specs.declared.kernel.Found.TheVariants.{User, Kernel as FoundKernel}
use Rattle.st_classes.specs.declared.kernel.Target.TheVariants.{Run, Primitive, Missing}
use Rattle.st_classes.specs.Kernel.{kernel_method, does_not_understand}
use Rattle.st_classes.specs.Classes.{chain, parent}
use Rattle.st_classes.specs.Walks.{is_at, method_id, decided, own_from, own, or_else, first_own, walk, walk_from, user_method, or_missing}
use Rattle.st_classes.specs.LookupLaws.{decides, LastDecides, HasNone, IsFirst, WalkFinds, Stands, FirstStands, chain_from, IsTarget, TargetStands}
use Rattle.st_classes.proofs.LawLists.{slice_get_here}
use Rattle.st_classes.proofs.Growing.{own_push}

-- the numbers decide
pub same_selector : (s t : Selector) → s.0 ≡ t.0 → s ≡ t
same_selector s t e = ap (λ (n : ℕ). let r : Selector = record { 0 = n } in r) e

pub same_class : (c d : ClassId) → c.0 ≡ d.0 → c ≡ d
same_class c d e = ap (λ (n : ℕ). let r : ClassId = record { 0 = n } in r) e

pub same_method : (m n : MethodId) → m.0 ≡ n.0 → m ≡ n
same_method m n e = ap (λ (k : ℕ). let r : MethodId = record { 0 = k } in r) e

-- ---- the last edit

is_at_itself : (c : ClassId) (s : Selector) → is_at c s c s ≡ true
is_at_itself c s = and_from (c.0 == c.0) (s.0 == s.0) (eq-eqb c.0 c.0 refl) (eq-eqb s.0 s.0 refl)

-- an edit that does not decide leaves what was found
undecided : (e : Edit) (place : ℕ) (found : Option Found) (c : ClassId) (s : Selector) → decides e c s ≡ false → decided e place found c s ≡ found
undecided (Define name up added) place found c s h = refl
undecided (Install d m) place found c s h = rw h
undecided (Remove d t) place found c s h = rw h
undecided (Reparent d p) place found c s h = refl

install_decides : (place : ℕ) (found : Option Found) (c : ClassId) (m : MethodParts) → decided (Install c m) place found c m.selector ≡ Some (User (method_id place))
install_decides place found c m = rw (is_at_itself c m.selector)

removal_decides : (place : ℕ) (found : Option Found) (c : ClassId) (s : Selector) → decided (Remove c s) place found c s ≡ None
removal_decides place found c s = rw (is_at_itself c s)

pub last_decides : LastDecides
last_decides = record {
  kernel = λ c s. refl;
  install = λ es c m. own_push es (Install c m) c m.selector ∙ install_decides (length es) (own es c m.selector) c m;
  removal = λ es c s. own_push es (Remove c s) c s ∙ removal_decides (length es) (own es c s) c s;
  other = λ es e c s h. own_push es e c s ∙ undecided e (length es) (own es c s) c s h;
}

-- ---- the first of some classes

-- the first that has one, or none
abbrev HasFirst : List Edit → List ClassId → Selector → Option Found → Type 0
HasFirst edits cs s None = All (HasNone edits s) cs
HasFirst edits cs s (Some found) = IsFirst edits cs s found

-- a class without one before
first_below : (edits : List Edit) (c : ClassId) (cs : List ClassId) (s : Selector) (o : Option Found) → own edits c s ≡ None → HasFirst edits cs s o → HasFirst edits (c ∷ cs) s o
first_below edits c cs s None e h = All-cons (HasNone edits s) c cs e h
first_below edits c cs s (Some found) e h = record { before = c ∷ h.before; holder = h.holder; after = h.after; along = ap (λ (ds : List ClassId). c ∷ ds) h.along; its_own = h.its_own; none_before = All-cons (HasNone edits s) c h.before e h.none_before }

first_step : (edits : List Edit) (c : ClassId) (cs : List ClassId) (s : Selector) (o : Option Found) → own edits c s ≡ o → HasFirst edits cs s (first_own edits cs s) → HasFirst edits (c ∷ cs) s (or_else o (first_own edits cs s))
first_step edits c cs s None e h = first_below edits c cs s (first_own edits cs s) e h
first_step edits c cs s (Some found) e h = record { before = []; holder = c; after = cs; along = refl; its_own = e; none_before = All-nil (HasNone edits s) }

first_is : (edits : List Edit) (cs : List ClassId) (s : Selector) → HasFirst edits cs s (first_own edits cs s)
first_is edits [] s = All-nil (HasNone edits s)
first_is edits (c ∷ cs) s = first_step edits c cs s (own edits c s) refl (first_is edits cs s)

none_found : (edits : List Edit) (cs : List ClassId) (s : Selector) → All (HasNone edits s) cs → first_own edits cs s ≡ None
none_found edits [] s h = refl
none_found edits (c ∷ cs) s h = ap (λ (o : Option Found). or_else o (first_own edits cs s)) (All-head (HasNone edits s) c cs h) ∙ none_found edits cs s (All-tail (HasNone edits s) c cs h)

found_behind : (edits : List Edit) (before : List ClassId) (c : ClassId) (after : List ClassId) (s : Selector) (found : Found) → All (HasNone edits s) before → own edits c s ≡ Some found → first_own edits (before ++ c ∷ after) s ≡ Some found
found_behind edits [] c after s found h e = ap (λ (o : Option Found). or_else o (first_own edits after s)) e
found_behind edits (d ∷ before) c after s found h e = ap (λ (o : Option Found). or_else o (first_own edits (before ++ c ∷ after) s)) (All-head (HasNone edits s) d before h) ∙ found_behind edits before c after s found (All-tail (HasNone edits s) d before h) e

pub first_found : (edits : List Edit) (cs : List ClassId) (s : Selector) (found : Found) → (first_own edits cs s ≡ Some found) ↔ IsFirst edits cs s found
first_found edits cs s found = (
  λ e. subst (HasFirst edits cs s) e (first_is edits cs s),
  λ w. ap (λ (ds : List ClassId). first_own edits ds s) w.along ∙ found_behind edits w.before w.holder w.after s found w.none_before w.its_own,
)

pub first_none : (edits : List Edit) (cs : List ClassId) (s : Selector) → (first_own edits cs s ≡ None) ↔ All (HasNone edits s) cs
first_none edits cs s = (λ e. subst (HasFirst edits cs s) e (first_is edits cs s), λ h. none_found edits cs s h)

pub walk_finds : WalkFinds
walk_finds = record {
  first = λ edits c s found. first_found edits (chain edits c) s found;
  none = λ edits c s. first_none edits (chain edits c) s;
}

-- ---- where a method stands

-- nothing is installed or removed in a class for a selector
abbrev pub LeavesAlone : ClassId → Selector → Edit → Type 0
LeavesAlone c s e = decides e c s ≡ false

-- the same of edits that begin at a place
record StandsFrom (place : ℕ) (es : List Edit) (c : ClassId) (s : Selector) (m : MethodId) : Type 0 where
  method : MethodParts
  before : List Edit
  after : List Edit
  installed : es ≡ before ++ Install c method ∷ after
  numbered : place + length before ≡ m.0
  named : method.selector ≡ s
  lasts : All (LeavesAlone c s) after

further : (place : ℕ) (e : Edit) (es : List Edit) (c : ClassId) (s : Selector) (m : MethodId) → StandsFrom (place + 1) es c s m → StandsFrom place (e ∷ es) c s m
further place e es c s m w = record { method = w.method; before = e ∷ w.before; after = w.after; installed = ap (λ (ds : List Edit). e ∷ ds) w.installed; numbered = omega (arith, w.numbered); named = w.named; lasts = w.lasts }

-- an edit at a place that is the install of a method in a class for a selector
abbrev IsInstall : Edit → ℕ → ClassId → Selector → MethodId → Type 0
IsInstall e place c s m = (p : MethodParts) × (e ≡ Install c p) × (p.selector ≡ s) × (place ≡ m.0)

install_is : (b : Bool) (d c : ClassId) (p : MethodParts) (s : Selector) (place : ℕ) (found : Option Found) (m : MethodId) → is_at d p.selector c s ≡ b → (if b then Some (User (method_id place)) else found) ≡ Some (User m) → (LeavesAlone c s (Install d p) × (found ≡ Some (User m))) ⊎ IsInstall (Install d p) place c s m
install_is true d c p s place found m h e =
    let at = and_parts (d.0 == c.0) (p.selector.0 == s.0) h in
    let same : method_id place ≡ m = cc in
    inr (p, ap (λ (x : ClassId). Install x p) (same_class d c (eqb-true d.0 c.0 at.0)), same_selector p.selector s (eqb-true p.selector.0 s.0 at.1), ap (λ (n : MethodId). n.0) same)
install_is false d c p s place found m h e = inl (h, e)

removal_is : (b : Bool) (found : Option Found) (m : MethodId) → (if b then None else found) ≡ Some (User m) → (b ≡ false) × (found ≡ Some (User m))
removal_is true found m e = cc
removal_is false found m e = (refl, e)

decided_user : (e : Edit) (place : ℕ) (found : Option Found) (c : ClassId) (s : Selector) (m : MethodId) → decided e place found c s ≡ Some (User m) → (LeavesAlone c s e × (found ≡ Some (User m))) ⊎ IsInstall e place c s m
decided_user (Define name up added) place found c s m e = inl (refl, e)
decided_user (Reparent d p) place found c s m e = inl (refl, e)
decided_user (Install d p) place found c s m e = install_is (is_at d p.selector c s) d c p s place found m refl e
decided_user (Remove d t) place found c s m e = inl (removal_is (is_at d t c s) found m e)

-- what was found before, where no edit decides, or else the last one that does
own_from_user : (es : List Edit) (place : ℕ) (found : Option Found) (c : ClassId) (s : Selector) (m : MethodId) → own_from place found es c s ≡ Some (User m) → ((found ≡ Some (User m)) × All (LeavesAlone c s) es) ⊎ StandsFrom place es c s m
own_from_user [] place found c s m e = inl (e, All-nil (LeavesAlone c s))
own_from_user (d ∷ es) place found c s m e = elim (own_from_user es (place + 1) (decided d place found c s) c s m e) [
  | inl w ↦ elim (decided_user d place found c s m w.0) [
    | inl v ↦ inl (v.1, All-cons (LeavesAlone c s) d es v.0 w.1)
    | inr v ↦ inr (record { method = v.0; before = []; after = es; installed = ap (λ (x : Edit). x ∷ es) v.1; numbered = omega (arith, v.3); named = v.2; lasts = w.1 })
  ]
  | inr w ↦ inr (further place d es c s m w)
]

no_kernel_user : (o : Option Kernel) (m : MethodId) → option_map FoundKernel o ≡ Some (User m) → ⊥
no_kernel_user None m e = cc
no_kernel_user (Some k) m e = cc

-- a class's own method of the user's stands in the table
pub own_stands : (edits : List Edit) (c : ClassId) (s : Selector) (m : MethodId) → own edits c s ≡ Some (User m) → Stands edits c s m
own_stands edits c s m e = elim (own_from_user edits 0 (option_map FoundKernel (kernel_method c s)) c s m e) [
  | inl w ↦ absurd (no_kernel_user (kernel_method c s) m w.0)
  | inr w ↦ record { method = w.method; before = w.before; after = w.after; installed = w.installed; place = omega (arith, w.numbered); named = w.named; lasts = w.lasts }
]

-- it was installed at its number
pub stands_at : (edits : List Edit) (c : ClassId) (s : Selector) (m : MethodId) (w : Stands edits c s m) → slice_get edits m.0 ≡ Some (Install c w.method)
stands_at edits c s m w = ap (slice_get edits) (sym w.place) ∙ ap (λ (es : List Edit). slice_get es (length w.before)) w.installed ∙ slice_get_here w.before (Install c w.method) w.after

-- edits that leave a method alone
own_from_left : (es : List Edit) (place : ℕ) (found : Option Found) (c : ClassId) (s : Selector) → All (LeavesAlone c s) es → own_from place found es c s ≡ found
own_from_left [] place found c s h = refl
own_from_left (e ∷ es) place found c s h = own_from_left es (place + 1) (decided e place found c s) c s (All-tail (LeavesAlone c s) e es h) ∙ undecided e place found c s (All-head (LeavesAlone c s) e es h)

own_from_installed : (before : List Edit) (c : ClassId) (p : MethodParts) (after : List Edit) (place : ℕ) (found : Option Found) → All (LeavesAlone c p.selector) after → own_from place found (before ++ Install c p ∷ after) c p.selector ≡ Some (User (method_id (place + length before)))
own_from_installed [] c p after place found h = own_from_left after (place + 1) (decided (Install c p) place found c p.selector) c p.selector h ∙ install_decides place found c p ∙ ap (λ (n : ℕ). Some (User (method_id n))) (omega arith)
own_from_installed (e ∷ before) c p after place found h = own_from_installed before c p after (place + 1) (decided e place found c p.selector) h ∙ ap (λ (n : ℕ). Some (User (method_id n))) (omega arith)

-- a method that stands in the table for a class is the class's own
stands_own : (edits : List Edit) (c : ClassId) (s : Selector) (m : MethodId) → Stands edits c s m → own edits c s ≡ Some (User m)
stands_own edits c s m w =
    let lasts : All (LeavesAlone c w.method.selector) w.after = subst (λ (t : Selector). All (LeavesAlone c t) w.after) (sym w.named) w.lasts in
    let found : Option Found = option_map FoundKernel (kernel_method c w.method.selector) in
    let here : own edits c w.method.selector ≡ Some (User (method_id (length w.before))) = ap (λ (es : List Edit). own es c w.method.selector) w.installed ∙ own_from_installed w.before c w.method w.after 0 found lasts ∙ ap (λ (n : ℕ). Some (User (method_id n))) (omega arith) in
    ap (own edits c) (sym w.named) ∙ here ∙ ap (λ (n : MethodId). Some (User n)) (same_method (method_id (length w.before)) m w.place)

-- ---- targets

-- what was found, by the target
run_is : (edits : List Edit) (c : ClassId) (o : Option Found) (m : MethodId) → or_missing edits c o ≡ Run m → o ≡ Some (User m)
run_is edits c None m e = cc
run_is edits c (Some (User n)) m e = let same : n ≡ m = cc in ap (λ (x : MethodId). Some (User x)) same
run_is edits c (Some (FoundKernel k)) m e = cc

primitive_is : (edits : List Edit) (c : ClassId) (o : Option Found) (k : Kernel) → or_missing edits c o ≡ Primitive k → o ≡ Some (FoundKernel k)
primitive_is edits c None k e = cc
primitive_is edits c (Some (User n)) k e = cc
primitive_is edits c (Some (FoundKernel j)) k e = let same : j ≡ k = cc in ap (λ (x : Kernel). Some (FoundKernel x)) same

user_is : (o : Option Found) (m : MethodId) → user_method o ≡ Some m → o ≡ Some (User m)
user_is None m e = cc
user_is (Some (User n)) m e = let same : n ≡ m = cc in ap (λ (x : MethodId). Some (User x)) same
user_is (Some (FoundKernel k)) m e = cc

missing_none : (edits : List Edit) (c : ClassId) (o : Option Found) (m : MethodId) → or_missing edits c o ≡ Missing (Some m) → (o ≡ None) × (walk edits c does_not_understand ≡ Some (User m))
missing_none edits c None m e = let same : user_method (walk edits c does_not_understand) ≡ Some m = cc in (refl, user_is (walk edits c does_not_understand) m same)
missing_none edits c (Some (User n)) m e = cc
missing_none edits c (Some (FoundKernel k)) m e = cc

nothing_none : (edits : List Edit) (c : ClassId) (o : Option Found) → or_missing edits c o ≡ Missing None → (o ≡ None) × (user_method (walk edits c does_not_understand) ≡ None)
nothing_none edits c None e = (refl, cc)
nothing_none edits c (Some (User n)) e = cc
nothing_none edits c (Some (FoundKernel k)) e = cc

no_user : (o : Option Found) → ((m : MethodId) → o ≡ Some (User m) → ⊥) → user_method o ≡ None
no_user None h = refl
no_user (Some (User m)) h = absurd (h m refl)
no_user (Some (FoundKernel k)) h = refl

-- the first of some classes that has a method of its own, where that is one of the user's
pub first_stands : (edits : List Edit) (cs : List ClassId) (s : Selector) (m : MethodId) → first_own edits cs s ≡ Some (User m) → FirstStands edits cs s m
first_stands edits cs s m e = let w = (first_found edits cs s (User m)).0 e in (w, own_stands edits w.holder s m w.its_own)

target_of : (edits : List Edit) (c : ClassId) (cs : List ClassId) (s : Selector) → IsTarget edits c cs s (or_missing edits c (first_own edits cs s))
target_of edits c cs s = record {
  run = λ m. (λ e. first_stands edits cs s m (run_is edits c (first_own edits cs s) m e), λ w. ap (or_missing edits c) ((first_found edits cs s (User m)).1 w.0));
  primitive = λ k. (λ e. (first_found edits cs s (FoundKernel k)).0 (primitive_is edits c (first_own edits cs s) k e), λ w. ap (or_missing edits c) ((first_found edits cs s (FoundKernel k)).1 w));
  missing = λ m. (
    λ e. let w = missing_none edits c (first_own edits cs s) m e in ((first_none edits cs s).0 w.0, first_stands edits (chain edits c) does_not_understand m w.1),
    λ w. ap (or_missing edits c) ((first_none edits cs s).1 w.0) ∙ ap (λ (o : Option Found). Missing (user_method o)) ((first_found edits (chain edits c) does_not_understand (User m)).1 w.1.0),
  );
  nothing = (
    λ e. let w = nothing_none edits c (first_own edits cs s) e in ((first_none edits cs s).0 w.0, λ m u. let found = (first_found edits (chain edits c) does_not_understand (User m)).1 u.0 in let none : Some m ≡ None = ap user_method (sym found) ∙ w.1 in cc),
    λ w. ap (or_missing edits c) ((first_none edits cs s).1 w.0) ∙ ap (λ (o : Option MethodId). Missing o) (no_user (walk edits c does_not_understand) (λ m e. w.1 m (first_stands edits (chain edits c) does_not_understand m e))),
  );
}

walk_from_is : (edits : List Edit) (o : Option ClassId) (s : Selector) → first_own edits (chain_from edits o) s ≡ walk_from edits o s
walk_from_is edits None s = refl
walk_from_is edits (Some c) s = refl

pub target_stands : TargetStands
target_stands = record {
  stands = λ edits c s m. (own_stands edits c s m, stands_own edits c s m);
  send = λ edits c s. target_of edits c (chain edits c) s;
  super_send = λ edits holder c s. let cs : List ClassId = chain_from edits (parent edits holder) in subst (λ (o : Option Found). IsTarget edits c cs s (or_missing edits c o)) (walk_from_is edits (parent edits holder) s) (target_of edits c cs s);
}
