-- What a refused edit of a file leaves.
use Rattle.std.proofs.Common.{◌≡◌, ◌⊎◌, inl, inr, ℕ, Bool, true, false, List, [], ◌∷◌, Option, Some, None, nat_lt, length, refl, sym, ◌∙◌, subst}
use Rattle.std.proofs.lemmas.Option.{same_Some}
use Rattle.st_classes.specs.declared.values.ClassId.{ClassId}
use Rattle.st_classes.specs.declared.refusals.Refusal.{Refusal}
use Rattle.st_classes.specs.declared.refusals.Refusal.TheVariants.{NoMemory, TooMany}
use Rattle.st_classes.specs.declared.refusals.Limited.TheVariants.{Names}
use Rattle.st_classes.specs.Refusals.{first_of}
use Rattle.st_classes.specs.Classes.{class_named}
use Rattle.st_reader.specs.Spelling.{Spells}
use Rattle.st_reader.specs.Syntax.{Method}
use Rattle.st_reader.proofs.Exact.{one_way}
use Rattle.st_reader.proofs.Spelled.{one_reading}
use Rattle.st_compile.specs.CompileRules.{code_rules, method_rules}
use Rattle.st_compile.specs.NeededNames.{InternsFirst, IsFull, interned_all, names_rule, needed_texts}
use Rattle.st_compile.proofs.Interning.{first-all}
use Rattle.st_image.specs.Loading.{AddsNeeded, HasCode, LeavesInstall, LoaderView, edits_refusal}
use Rattle.st_image.proofs.Lists.{first_later, off_append}

-- no method has code there
abbrev NoCode : LoaderView → List ℕ → List ℕ → Type 0
NoCode l class source = (method : Method) → HasCode l class source method → ⊥

none_left : (l m : LoaderView) (class source : List ℕ) (e : Refusal) → m ≡ l → NoCode l class source → LeavesInstall l class source (edits_refusal e) m
none_left l m class source NoMemory same none = inl same
none_left l m class source e same none = inl (same, none)

no_memory_left : (l m : LoaderView) (class source : List ℕ) (e : Refusal) → e ≡ NoMemory → (m ≡ l) ⊎ AddsNeeded InternsFirst l class source m → LeavesInstall l class source (edits_refusal e) m
no_memory_left l m class source e n h = subst (λ (r : Refusal). LeavesInstall l class source (edits_refusal r) m) (sym n) h

-- a method with no code in the class
no_code : (l : LoaderView) (class source : List ℕ) (c : ClassId) (tree : Method) (d : Refusal) → class_named l.edits class ≡ Some c → Spells tree source → first_of (code_rules l.edits c tree) ≡ Some d → NoCode l class source
no_code l class source c tree d named spelled refused method h =
    let holders : h.holder ≡ c = same_Some h.holder c (sym h.named ∙ named) in
    let methods : method ≡ tree = one_reading one_way source method tree h.spelled spelled in
    let accepted : first_of (code_rules l.edits c tree) ≡ None = subst (λ (t : Method). first_of (code_rules l.edits c t) ≡ None) methods (subst (λ (x : ClassId). first_of (code_rules l.edits x method) ≡ None) holders h.accepted) in
    let k : Some d ≡ None = sym refused ∙ accepted in
    cc

-- names that are too many
full_left : (l m : LoaderView) (class source : List ℕ) (tree : Method) (e : Refusal) (full : Bool) → nat_lt 8192 (length (interned_all l.names (needed_texts tree))) ≡ full → AddsNeeded InternsFirst l class source m → IsFull m.names e → first_of (names_rule l.names (needed_texts tree) ∷ []) ≡ Some e → LeavesInstall l class source (edits_refusal e) m
full_left l m class source tree e true f adds is_full refused =
    let now : Some (TooMany Names) ≡ Some e = rw f at refused in
    let same : TooMany Names ≡ e = same_Some (TooMany Names) e now in
    subst (λ (r : Refusal). LeavesInstall l class source (edits_refusal r) m) same (inr (inl (adds, is_full (sym same))))
full_left l m class source tree e false f adds is_full refused =
    let none : None ≡ Some e = rw f at refused in
    cc

-- a method that is not compiled
pub tree_left : (l m : LoaderView) (class source : List ℕ) (c : ClassId) (tree : Method) (e : Refusal) → class_named l.edits class ≡ Some c → Spells tree source → InternsFirst l.names (needed_texts tree) m.names → m ≡ record l { names = m.names } → ((d : Refusal) → first_of (code_rules l.edits c tree) ≡ Some d → m ≡ l) → IsFull m.names e → (e ≡ NoMemory) ⊎ (first_of (method_rules l.names l.edits c tree) ≡ Some e) → LeavesInstall l class source (edits_refusal e) m
tree_left l m class source c tree e named spelled some only untouched full refused = by (first_of (code_rules l.edits c tree)) refl
  where
    by : (o : Option Refusal) → first_of (code_rules l.edits c tree) ≡ o → LeavesInstall l class source (edits_refusal e) m
    by (Some d) h = none_left l m class source e (untouched d h) (no_code l class source c tree d named spelled h)
    by None h =
        let coded : HasCode l class source tree = record { holder = c; named = named; spelled = spelled; accepted = h } in
        let adds : AddsNeeded InternsFirst l class source m = record { method = tree; coded = coded; interned = some; only = only } in
        elim refused [
          | inl n ↦ no_memory_left l m class source e n (inr adds)
          | inr f ↦ full_left l m class source tree e (nat_lt 8192 (length (interned_all l.names (needed_texts tree)))) refl adds full (sym (first_later (code_rules l.edits c tree) (names_rule l.names (needed_texts tree) ∷ []) h) ∙ f)
        ]

-- a compiled method that is not accepted at its place
pub place_left : (l m : LoaderView) (class source : List ℕ) (c : ClassId) (tree : Method) (e : Refusal) → class_named l.edits class ≡ Some c → Spells tree source → m.names ≡ interned_all l.names (needed_texts tree) → m ≡ record l { names = m.names } → first_of (method_rules l.names l.edits c tree) ≡ None → LeavesInstall l class source (edits_refusal e) m
place_left l m class source c tree e named spelled names only accepted = by e
  where
    coded : HasCode l class source tree
    coded = record { holder = c; named = named; spelled = spelled; accepted = (off_append (code_rules l.edits c tree) (names_rule l.names (needed_texts tree) ∷ []) accepted).0 }

    by : (d : Refusal) → LeavesInstall l class source (edits_refusal d) m
    by NoMemory = inr (record { method = tree; coded = coded; interned = first-all l.names (needed_texts tree) m.names names; only = only })
    by d = inr (inr (record { method = tree; coded = coded; interned = names; only = only }))
