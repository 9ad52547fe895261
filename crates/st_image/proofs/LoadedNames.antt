-- The names and edits that a file adds.
use Rattle.std.proofs.Common.{◌≡◌, ◌⊎◌, inl, inr, ℕ, suc, ◌||◌, Bool, true, false, cond, List, [], ◌∷◌, ◌++◌, Option, Some, None, Result, Ok, Err, option_map, refl, sym, ap, ◌∙◌, subst, is_some}
use Rattle.std.specs.List.{list_any, position}
use Rattle.std.specs.Str.{bytes_eq}
use Rattle.std.proofs.lemmas.Bool.{lt-ltb}
use Rattle.std.proofs.lemmas.Option.{same_Some}
use Rattle.st_classes.specs.declared.values.ClassId.{ClassId}
use Rattle.st_classes.specs.declared.values.Selector.{Selector}
use Rattle.st_classes.specs.declared.edits.Edit.{Edit}
use Rattle.st_classes.specs.declared.edits.Edit.TheVariants.{Install}
use Rattle.st_classes.specs.declared.methods.MethodParts.{MethodParts}
use Rattle.st_classes.specs.declared.refusals.Refusal.{Refusal}
use Rattle.st_classes.specs.declared.refusals.Refusal.TheVariants.{BadImage, NoMemory}
use Rattle.st_classes.specs.declared.instructions.Instruction.{Instruction}
use Rattle.st_classes.specs.Refusals.{first_of}
use Rattle.st_classes.specs.Kernel.{class, selector}
use Rattle.st_classes.specs.Names.{is_name, interned, intern_rules}
use Rattle.st_classes.specs.Selectors.{place_of}
use Rattle.st_classes.specs.Classes.{is_class, class_count, class_named, classes}
use Rattle.st_classes.specs.EditRules.{edit_rules}
use Rattle.st_classes.proofs.Naming.{absent, place_of-at}
use Rattle.st_reader.specs.Syntax.{Method}
use Rattle.st_reader.specs.Spelling.{Spells}
use Rattle.st_compile.specs.CompiledMethod.{IsCompiled, parts_of}
use Rattle.st_compile.specs.CompileRules.{method_rules}
use Rattle.st_compile.specs.NeededNames.{interned_all, needed_texts}
use Rattle.st_compile.proofs.Places.{first, position-first, first-within}
use Rattle.st_classes.specs.EditLists.{AllSuit}
use Rattle.st_classes.specs.MethodSuits.{suits}
use Rattle.st_classes.specs.declared.refusals.ImagePlace.TheVariants as place
use Rattle.st_classes.proofs.LawGrowing.{all_suit_more_names}
use Rattle.st_image.proofs.CompiledEdits.{all_grown}
use Rattle.st_image.specs.Loading.{HoldsLoader, LoaderView, LoadsName, InstallsTree, InstallsFrom, Nowhere, AnswersTree, AnswersEdit, names_refusal}

-- ---- names

passed : (b : Bool) (rest : Option ℕ) (l : Bool) → (rest ≡ None → l ≡ false) → cond b (Some 0) (option_map suc rest) ≡ None → (b || l) ≡ false
passed true rest l f h = cc
passed false None l f h = f refl
passed false (Some n) l f h = cc

pub no_first : (text : List ℕ) (xs : List (List ℕ)) → first (bytes_eq text) xs ≡ None → list_any (bytes_eq text) xs ≡ false
no_first text [] h = refl
no_first text (x ∷ xs) h = passed (bytes_eq text x) (first (bytes_eq text) xs) (list_any (bytes_eq text) xs) (no_first text xs) h

no_place : (o : Option ℕ) → None ≡ option_map selector o → o ≡ None
no_place None e = refl
no_place (Some n) e = cc

-- a text that is not found is no name
pub not_found : (names : List (List ℕ)) (text : List ℕ) → None ≡ option_map selector (place_of names text) → is_name names text ≡ false
not_found names text e = no_first text names (sym (position-first (bytes_eq text) names) ∙ no_place (place_of names text) e)

pub place_found : (o : Option ℕ) (s : Selector) → Some s ≡ option_map selector o → o ≡ Some s.0
place_found None s e = cc
place_found (Some n) s e = let same : s ≡ selector n = cc in ap (λ (t : Selector). Some t.0) (sym same)

-- a text that is found is a name already
pub found_already : (l : LoaderView) (text : List ℕ) (s : Selector) → Some s ≡ option_map selector (place_of l.names text) → Nowhere (LoadsName l text)
found_already l text s e = λ m p. absent l.names text s.0 p.new (place_of-at l.names text s.0 (place_found (place_of l.names text) s e))

-- ---- classes

-- a class that has a name is there
pub named_class : (edits : List Edit) (text : List ℕ) (c : ClassId) → Some c ≡ class_named edits text → is_class edits c ≡ true
named_class edits text c e = by (position (λ d. bytes_eq text d.name) (classes edits)) refl
  where
    by : (o : Option ℕ) → position (λ d. bytes_eq text d.name) (classes edits) ≡ o → is_class edits c ≡ true
    by None q =
        let k : Some c ≡ None = rw q at e in
        cc
    by (Some n) q =
        let k : Some c ≡ Some (class n) = rw q at e in
        let same : class n ≡ c = cc in
        lt-ltb c.0 (class_count edits) (rw (← same) (first-within (λ d. bytes_eq text d.name) (classes edits) n (sym (position-first (λ d. bytes_eq text d.name) (classes edits)) ∙ q)))

-- ---- methods

-- a method is compiled to one list of parts
pub compiled_once : (names : List (List ℕ)) (edits : List Edit) (c : ClassId) (method : Method) (text : List ℕ) (m n : MethodParts) → IsCompiled names edits c method text m → IsCompiled names edits c method text n → m ≡ n
compiled_once names edits c method text m n p q =
    let number : m.selector.0 ≡ n.selector.0 = same_Some m.selector.0 n.selector.0 (sym p.selector ∙ q.selector) in
    let selectors : m.selector ≡ n.selector = ap (λ (k : ℕ). selector k) number in
    let codes : m.code ≡ n.code = same_Some m.code n.code (sym p.code ∙ q.code) in
    p.parts ∙ (ap (λ (s : Selector). parts_of c method s m.code text) selectors ∙ (ap (λ (is : List Instruction). parts_of c method n.selector is text) codes ∙ sym q.parts))

-- a method that is refused by its rules, or at its place, is not installed
pub refused_tree : (l : LoaderView) (c : ClassId) (method : Method) (source : List ℕ) (e : Refusal) → first_of (method_rules l.names l.edits c method) ≡ Some e → Nowhere (InstallsTree l c method source)
refused_tree l c method source e r = λ m p. let k : Some e ≡ None = sym r ∙ p.accepted in cc

pub refused_place : (l : LoaderView) (names : List (List ℕ)) (c : ClassId) (method : Method) (source : List ℕ) (parts : MethodParts) (e : Refusal) → names ≡ interned_all l.names (needed_texts method) → IsCompiled names l.edits c method source parts → first_of (edit_rules l.edits (Install c parts)) ≡ Some e → Nowhere (InstallsTree l c method source)
refused_place l names c method source parts e n compiled r = λ m p.
    let same_names : m.names ≡ names = p.names ∙ sym n in
    let again : IsCompiled names l.edits c method source p.parts = subst (λ (ns : List (List ℕ)). IsCompiled ns l.edits c method source p.parts) same_names p.compiled in
    let same : parts ≡ p.parts = compiled_once names l.edits c method source parts p.parts compiled again in
    let k : Some e ≡ None = sym r ∙ (ap (λ (x : MethodParts). first_of (edit_rules l.edits (Install c x))) same ∙ p.accepts.allowed) in
    cc

abbrev pub made : List (List ℕ) → List Edit → LoaderView
made ns es = record { names = ns; edits = es }

-- one method of the text is installed
pub installed_once : (l : LoaderView) (class source : List ℕ) (m n : LoaderView) → ((a b : Method) → Spells a source → Spells b source → a ≡ b) → InstallsFrom l class source m → InstallsFrom l class source n → m ≡ n
installed_once l name source m n one p q =
    let holders : p.holder ≡ q.holder = same_Some p.holder q.holder (sym p.named ∙ q.named) in
    let methods : p.method ≡ q.method = one p.method q.method p.spelled q.spelled in
    let i : InstallsTree l q.holder q.method source m = subst (λ (h : ClassId). InstallsTree l h q.method source m) holders (subst (λ (t : Method). InstallsTree l p.holder t source m) methods p.installs) in
    let names : m.names ≡ n.names = i.names ∙ sym q.installs.names in
    let again : IsCompiled n.names l.edits q.holder q.method source i.parts = subst (λ (ns : List (List ℕ)). IsCompiled ns l.edits q.holder q.method source i.parts) names i.compiled in
    let same : i.parts ≡ q.installs.parts = compiled_once n.names l.edits q.holder q.method source i.parts q.installs.parts again q.installs.compiled in
    let edits : m.edits ≡ n.edits = i.accepts.added ∙ (ap (λ (x : MethodParts). l.edits ++ Install q.holder x ∷ []) same ∙ sym q.installs.accepts.added) in
    ap (λ (ns : List (List ℕ)). made ns m.edits) names ∙ ap (λ (es : List Edit). made n.names es) edits

-- a compiled method is accepted at its place
pub tree_installed : (l m k : LoaderView) (c : ClassId) (method : Method) (source : List ℕ) (parts : MethodParts) → first_of (method_rules l.names l.edits c method) ≡ None → m.names ≡ interned_all l.names (needed_texts method) → m.edits ≡ l.edits → IsCompiled m.names l.edits c method source parts → first_of (edit_rules m.edits (Install c parts)) ≡ None → k ≡ record m { edits = m.edits ++ Install c parts ∷ [] } → InstallsTree l c method source k
tree_installed l m k c method source parts accepted names same compiled allowed is =
    let after : k.names ≡ m.names = ap (λ (v : LoaderView). v.names) is in
    record {
      parts = parts;
      accepted = accepted;
      names = after ∙ names;
      compiled = subst (λ (ns : List (List ℕ)). IsCompiled ns l.edits c method source parts) (sym after) compiled;
      accepts = record {
        allowed = subst (λ (es : List Edit). first_of (edit_rules es (Install c parts)) ≡ None) same allowed;
        added = ap (λ (v : LoaderView). v.edits) is ∙ ap (λ (es : List Edit). es ++ Install c parts ∷ []) same;
      };
    }

pub fits_there : (l m : LoaderView) (c : ClassId) (method : Method) (source : List ℕ) (parts : MethodParts) → m.edits ≡ l.edits → IsCompiled m.names l.edits c method source parts → suits m.names m.edits c parts ≡ true
fits_there l m c method source parts same compiled = subst (λ (es : List Edit). suits m.names es c parts ≡ true) (sym same) compiled.fitting

-- the answer for a source, by that for its tree
pub from_tree : (l n : LoaderView) (name source text : List ℕ) (holder : ClassId) (method : Method) (r : Result (Unit {0}) Refusal) → class_named l.edits name ≡ Some holder → text ≡ source → Spells method source → ((other : Method) → Spells other source → other ≡ method) → AnswersTree l holder method text n r → AnswersEdit (InstallsFrom l name source) n r
from_tree l n name source text holder method (Ok u) named same spelled only h = record {
  holder = holder;
  method = method;
  named = named;
  spelled = spelled;
  installs = subst (λ (t : List ℕ). InstallsTree l holder method t n) same h;
}
from_tree l n name source text holder method (Err e) named same spelled only (inl h) = inl h
from_tree l n name source text holder method (Err e) named same spelled only (inr h) = inr (
  h.0,
  λ m p.
      let holders : p.holder ≡ holder = same_Some p.holder holder (sym p.named ∙ named) in
      let methods : p.method ≡ method = only p.method p.spelled in
      h.1 m (subst (λ (t : List ℕ). InstallsTree l holder method t m) (sym same) (subst (λ (c : ClassId). InstallsTree l c method source m) holders (subst (λ (t : Method). InstallsTree l p.holder t source m) methods p.installs))),
)

-- names that go on
pub grown_holds : (names after : List (List ℕ)) (edits : List Edit) → (more : List (List ℕ)) × (after ≡ names ++ more) → HoldsLoader names edits → HoldsLoader after edits
grown_holds names after edits g h = record {
  suited = subst (λ (ns : List (List ℕ)). AllSuit ns edits) (sym g.1) (all_suit_more_names names g.0 edits h.suited);
  compiled = all_grown names after edits g h.compiled;
}

-- a name is answered
pub name_added : (l : LoaderView) (names after : List (List ℕ)) (edits : List Edit) (text : List ℕ) → record { names = names; edits = edits } ≡ l → None ≡ option_map selector (place_of names text) → first_of (intern_rules names text) ≡ None → after ≡ interned names text → LoadsName l text (record { names = after; edits = edits })
name_added l names after edits text is none allowed e = record {
  new = subst (λ (v : LoaderView). is_name v.names text ≡ false) is (not_found names text none);
  allowed = subst (λ (v : LoaderView). first_of (intern_rules v.names text) ≡ None) is allowed;
  added = ap (λ (ns : List (List ℕ)). made ns edits) e ∙ ap (λ (v : LoaderView). record v { names = interned v.names text }) is;
}

pub name_refused : (l : LoaderView) (names : List (List ℕ)) (edits : List Edit) (text : List ℕ) (e : Refusal) → record { names = names; edits = edits } ≡ l → first_of (intern_rules names text) ≡ Some e → Nowhere (LoadsName l text)
name_refused l names edits text e is r = λ m p. let k : Some e ≡ None = sym r ∙ (ap (λ (v : LoaderView). first_of (intern_rules v.names text)) is ∙ p.allowed) in cc

pub name_answered : (old new : LoaderView) (names : List (List ℕ)) (text : List ℕ) (e : Refusal) → new ≡ old → (e ≡ NoMemory) ⊎ Nowhere (LoadsName old text) → (new ≡ old) × ((names_refusal e ≡ NoMemory) ⊎ ((names_refusal e ≡ BadImage place.Names) × Nowhere (LoadsName old text)))
name_answered old new names text e is (inl m) = (is, inl (ap names_refusal m))
name_answered old new names text e is (inr n) = (is, split e n)
  where
    split : (f : Refusal) → Nowhere (LoadsName old text) → (names_refusal f ≡ NoMemory) ⊎ ((names_refusal f ≡ BadImage place.Names) × Nowhere (LoadsName old text))
    split NoMemory n = inl refl
    split f n = inr (refl, n)

found_refused : (l : LoaderView) (names : List (List ℕ)) (edits : List Edit) (text : List ℕ) (s : Selector) → record { names = names; edits = edits } ≡ l → Some s ≡ option_map selector (place_of names text) → Nowhere (LoadsName l text)
found_refused l names edits text s is e = subst (λ (v : LoaderView). Nowhere (LoadsName v text)) is (found_already (made names edits) text s e)

-- a text that is found, or not
pub name_found : (l : LoaderView) (names : List (List ℕ)) (edits : List Edit) (text : List ℕ) (o : Option Selector) → record { names = names; edits = edits } ≡ l → o ≡ option_map selector (place_of names text) → is_some o ≡ true → Nowhere (LoadsName l text)
name_found l names edits text None is e t = cc
name_found l names edits text (Some s) is e t = found_refused l names edits text s is e

pub none_found : (names : List (List ℕ)) (text : List ℕ) (o : Option Selector) → o ≡ option_map selector (place_of names text) → is_some o ≡ false → None ≡ option_map selector (place_of names text)
none_found names text None e f = e
none_found names text (Some s) e f = cc

pub name_err : (l : LoaderView) (names after : List (List ℕ)) (edits : List Edit) (text : List ℕ) (e : Refusal) → record { names = names; edits = edits } ≡ l → after ≡ names → (e ≡ NoMemory) ⊎ (first_of (intern_rules names text) ≡ Some e) → (made after edits ≡ l) × ((names_refusal e ≡ NoMemory) ⊎ ((names_refusal e ≡ BadImage place.Names) × Nowhere (LoadsName l text)))
name_err l names after edits text e is same (inl n) = name_answered l (made after edits) names text e (ap (λ (ns : List (List ℕ)). made ns edits) same ∙ is) (inl n)
name_err l names after edits text e is same (inr r) = name_answered l (made after edits) names text e (ap (λ (ns : List (List ℕ)). made ns edits) same ∙ is) (inr (name_refused l names edits text e is r))
