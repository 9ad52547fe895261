-- What an install answers.
use Rattle.std.proofs.Common.{arith, ◌≡◌, ◌⊎◌, ℕ, zero, suc, ◌<◌, ◌++◌, [], ◌∷◌, List, Bool, true, false, not, cond, eqb, Option, Some, None, Result, Ok, Err, OnErr, IfErr, ◌+◌, nat_le, nat_lt, refl, ap, sym, ◌∙◌, subst, inl, inr, length, slice_get, option_map}
use Rattle.std.specs.Prelude.{is_some}
use Rattle.std.specs.Str.{bytes_eq}
use Rattle.std.proofs.lemmas.Bool.Decides.{nat_tests}
use Rattle.std.proofs.lemmas.Slice.Eq.{bytes_eq-Decides}
use Rattle.std.proofs.lemmas.Option.{same_Some}
use Rattle.std.proofs.lemmas.Bool.{cases_lt}
use Rattle.std.specs.Prelude.{◌||◌}
use Rattle.st_classes.specs.declared.values.ClassId.{ClassId}
use Rattle.st_classes.specs.declared.values.Selector.{Selector}
use Rattle.st_classes.specs.declared.methods.MethodParts.{MethodParts}
use Rattle.st_classes.specs.declared.edits.Edit.{Edit}
use Rattle.st_classes.specs.declared.edits.Edit.TheVariants.{Install}
use Rattle.st_classes.specs.declared.kernel.Kernel.{Kernel}
use Rattle.st_classes.specs.declared.refusals.Refusal.{Refusal}
use Rattle.st_classes.specs.declared.refusals.Refusal.TheVariants.{UnknownClass, KernelMethod, TooMany, HistoryFull, NoMemory, BadSource}
use Rattle.st_classes.specs.declared.refusals.Limited.TheVariants.{Names, Edits}
use Rattle.st_classes.specs.Refusals.{Rule, first_of, Answers}
use Rattle.st_classes.specs.Kernel.{selector, kernel_selectors, kernel_method, object_method, integer_method, boolean_method, actor_method, class_method}
use Rattle.st_classes.specs.Selectors.{place_of}
use Rattle.st_classes.specs.Classes.{is_class}
use Rattle.st_classes.specs.EditRules.{edit_rules, too_many_edits}
use Rattle.st_classes.proofs.LawLists.{slice_get_old}
use Rattle.st_classes.specs.declared.refusals.SourceFault.{SourceFault}
use Rattle.st_classes.specs.declared.refusals.SourceFault.TheVariants.{UnknownName, DuplicateName, TooLarge}
use Rattle.st_reader.specs.Spelling.{Spells}
use Rattle.st_reader.specs.Syntax.{Method}
use Rattle.st_compile.specs.NeededNames.{InternsFirst, IsFull, interned_all, names_rule, needed_texts}
use Rattle.st_compile.specs.CompileRules.{code_rules, method_rules, unknown, clashing, is_small, least}
use Rattle.st_compile.specs.Equations.{method_code}
use Rattle.st_reader.specs.Variables.{locals_of}
use Rattle.st_compile.specs.Scopes.{pattern_selector, scope_of}
use Rattle.st_compile.specs.CompiledMethod.{IsCompiled}
use Rattle.st_compile.proofs.Interning.{first-all}
use Rattle.st_compile.proofs.Places.{first, position-first, place-append, at-place}
use Rattle.st_image.proofs.Lists.{off_append, first_here, first_later}
use Rattle.st_image.proofs.Editing.{edited_world}
use Rattle.st_image.specs.Replay.{replay}
use Rattle.st_classes.specs.MethodSuits.{suits}
use Rattle.st_image.specs.declared.history.Item.TheVariants.{Edited}
use Rattle.st_image.specs.Worlds.{World}
use Rattle.st_image.specs.Images.{ImageView, constants, world, appended, edits_made, run_rules}
use Rattle.st_image.specs.WorldInvariant.{BeginsWithKernel}
use Rattle.st_image.specs.Calls.{AnswersExactly}
use Rattle.st_image.specs.Installs.{has_kernel, is_kernel_text, source_rules, image_install_rules, InternsAll, AddsNames, LeavesNames, with_names_of, Installs, memory, first as first_refusal, AnswersInstall}

-- ---- kernel methods by text

differ : (n k : ℕ) → k < n → eqb n k ≡ false
differ n k h = grind (arith, nat_tests)

object_high : (n : ℕ) → 21 < n → object_method n ≡ None
object_high n h = rw (differ n 0 (omega arith), differ n 1 (omega arith), differ n 2 (omega arith), differ n 3 (omega arith), differ n 4 (omega arith)) refl

integer_high : (n : ℕ) → 21 < n → integer_method n ≡ None
integer_high n h = rw (differ n 5 (omega arith), differ n 6 (omega arith), differ n 7 (omega arith), differ n 8 (omega arith), differ n 9 (omega arith), differ n 10 (omega arith), differ n 11 (omega arith), differ n 12 (omega arith), differ n 13 (omega arith)) refl

boolean_high : (n : ℕ) → 21 < n → boolean_method n ≡ None
boolean_high n h = rw (differ n 14 (omega arith), differ n 15 (omega arith)) refl

actor_high : (n : ℕ) → 21 < n → actor_method n ≡ None
actor_high n h = rw (differ n 16 (omega arith), differ n 17 (omega arith), differ n 18 (omega arith), differ n 19 (omega arith)) refl

class_high : (n : ℕ) → 21 < n → class_method n ≡ None
class_high n h = rw (differ n 20 (omega arith), differ n 21 (omega arith)) refl

chosen_none : (b : Bool) (x y : Option Kernel) → x ≡ None → y ≡ None → cond b x y ≡ None
chosen_none true x y e f = e
chosen_none false x y e f = f

-- no name behind the kernel's is a kernel method's
kernel_high : (c : ClassId) (n : ℕ) → 21 < n → kernel_method c (selector n) ≡ None
kernel_high c n h = chosen_none (eqb c.0 0) _ _ (object_high n h) (chosen_none (eqb c.0 1) _ _ (integer_high n h) (chosen_none (eqb c.0 2 || eqb c.0 3) _ _ (boolean_high n h) (chosen_none (eqb c.0 6) _ _ (actor_high n h) (chosen_none (eqb c.0 7) _ _ (class_high n h) refl))))

same_text : (text : List ℕ) → bytes_eq text text ≡ true
same_text text = (bytes_eq-Decides text text).1 refl

head_found : (text x : List ℕ) (rest : Option ℕ) → x ≡ text → cond (bytes_eq text x) (Some 0) rest ≡ None → ⊥
head_found text x rest e h = let t : bytes_eq text x ≡ true = rw e (same_text text) in let f : cond (bytes_eq text x) (Some 0) rest ≡ Some 0 = rw t refl in cc

tail_none : (b : Bool) (rest : Option ℕ) → cond b (Some 0) (option_map suc rest) ≡ None → rest ≡ None
tail_none true rest h = cc
tail_none false None h = refl
tail_none false (Some n) h = cc

-- a text that stands in a list has a place
none_there : (xs : List (List ℕ)) (n : ℕ) (text : List ℕ) → slice_get xs n ≡ Some text → first (bytes_eq text) xs ≡ None → ⊥
none_there [] n text at h = cc
none_there (x ∷ xs) zero text at h = head_found text x (option_map suc (first (bytes_eq text) xs)) (same_Some x text at) h
none_there (x ∷ xs) (suc n) text at h = none_there xs n text at (tail_none (bytes_eq text x) (first (bytes_eq text) xs) h)

high_place : (more : List (List ℕ)) (text : List ℕ) (n : ℕ) → place_of (kernel_selectors ++ more) text ≡ Some n → place_of kernel_selectors text ≡ None → 21 < n
high_place more text n at none = elim (cases_lt n 22) [
  | inl low ↦ absurd (none_there kernel_selectors n text (sym (slice_get_old kernel_selectors more n low) ∙ at-place (kernel_selectors ++ more) text n at) (sym (position-first (bytes_eq text) kernel_selectors) ∙ none))
  | inr high ↦ omega (arith, high)
]

beyond : (c : ClassId) (more : List (List ℕ)) (text : List ℕ) → place_of kernel_selectors text ≡ None → (o : Option ℕ) → place_of (kernel_selectors ++ more) text ≡ o → has_kernel c o ≡ false
beyond c more text none None at = refl
beyond c more text none (Some n) at = ap is_some (kernel_high c n (high_place more text n at none))

same_kernel : (c : ClassId) (more : List (List ℕ)) (text : List ℕ) (o : Option ℕ) → place_of kernel_selectors text ≡ o → has_kernel c (place_of (kernel_selectors ++ more) text) ≡ has_kernel c o
same_kernel c more text None at = beyond c more text at (place_of (kernel_selectors ++ more) text) refl
same_kernel c more text (Some n) at = ap (has_kernel c) (place-append kernel_selectors more text n at)

-- in a name table a text has a kernel method where it has one among the kernel's names
pub kernel_in : (names : List (List ℕ)) → BeginsWithKernel names → (c : ClassId) (text : List ℕ) → has_kernel c (place_of names text) ≡ is_kernel_text c text
kernel_in names h c text = subst (λ (ns : List (List ℕ)). has_kernel c (place_of ns text) ≡ is_kernel_text c text) (sym h.1) (same_kernel c h.0 text (place_of kernel_selectors text) refl)

found_some : (c : ClassId) (s : Selector) (o : Option ℕ) → option_map selector o ≡ Some s → is_some (kernel_method c s) ≡ has_kernel c o
found_some c s None e = cc
found_some c s (Some n) e = ap (λ (t : Selector). is_some (kernel_method c t)) (sym (same_Some (selector n) s e))

pub kernel_found : (names : List (List ℕ)) → BeginsWithKernel names → (c : ClassId) (text : List ℕ) (s : Selector) → option_map selector (place_of names text) ≡ Some s → is_some (kernel_method c s) ≡ is_kernel_text c text
kernel_found names h c text s e = found_some c s (place_of names text) e ∙ kernel_in names h c text

none_found : (c : ClassId) (o : Option ℕ) → option_map selector o ≡ None → has_kernel c o ≡ false
none_found c None e = refl
none_found c (Some n) e = cc

pub kernel_missing : (names : List (List ℕ)) → BeginsWithKernel names → (c : ClassId) (text : List ℕ) → option_map selector (place_of names text) ≡ None → is_kernel_text c text ≡ false
kernel_missing names h c text e = sym (kernel_in names h c text) ∙ none_found c (place_of names text) e

-- ---- rules in order

pub skip : (b : Bool) (r : Refusal) (rules : List Rule) → b ≡ false → first_of ((b, r) ∷ rules) ≡ first_of rules
skip true r rules e = cc
skip false r rules e = refl

is_not : (b : Bool) → b ≡ true → not b ≡ false
is_not true e = refl
is_not false e = cc

-- behind the class and the kernel come the tree's refusals, and then those of an edit
tree_part : (i : ImageView) (c : ClassId) (tree : Method) → is_class (world i).edits c ≡ true → is_kernel_text c (pattern_selector tree.pattern) ≡ false → first_of (image_install_rules i c tree) ≡ first_of (method_rules i.names (world i).edits c tree ++ (too_many_edits (world i).edits ∷ run_rules i))
tree_part i c tree h k =
    skip (not (is_class (world i).edits c)) UnknownClass ((is_kernel_text c (pattern_selector tree.pattern), KernelMethod) ∷ (method_rules i.names (world i).edits c tree ++ (too_many_edits (world i).edits ∷ run_rules i))) (is_not _ h)
    ∙ skip (is_kernel_text c (pattern_selector tree.pattern)) KernelMethod (method_rules i.names (world i).edits c tree ++ (too_many_edits (world i).edits ∷ run_rules i)) k

-- the refusal of a tree is that of its install
pub tree_refused : (i : ImageView) (c : ClassId) (tree : Method) (e : Refusal) → is_class (world i).edits c ≡ true → is_kernel_text c (pattern_selector tree.pattern) ≡ false → (e ≡ NoMemory) ⊎ (first_of (method_rules i.names (world i).edits c tree) ≡ Some e) → (e ≡ NoMemory) ⊎ (first_of (image_install_rules i c tree) ≡ Some e)
tree_refused i c tree e h k (inl m) = inl m
tree_refused i c tree e h k (inr f) = inr (tree_part i c tree h k ∙ first_here (method_rules i.names (world i).edits c tree) (too_many_edits (world i).edits ∷ run_rules i) e f)

-- the number of a method's selector is no kernel method's
number_free : (names : List (List ℕ)) → BeginsWithKernel names → (c : ClassId) (text : List ℕ) (s : Selector) → place_of names text ≡ Some s.0 → is_kernel_text c text ≡ false → is_some (kernel_method c s) ≡ false
number_free names b c text s at k = sym (ap (has_kernel c) at) ∙ kernel_in names b c text ∙ k

edit_part : (es : List Edit) (j : ImageView) (c : ClassId) (m : MethodParts) → is_class es c ≡ true → is_some (kernel_method c m.selector) ≡ false → first_of (edit_rules es (Install c m) ++ run_rules j) ≡ first_of (too_many_edits es ∷ run_rules j)
edit_part es j c m h k =
    skip (not (is_class es c)) UnknownClass ((is_some (kernel_method c m.selector), KernelMethod) ∷ (too_many_edits es ∷ run_rules j)) (is_not _ h)
    ∙ skip (is_some (kernel_method c m.selector)) KernelMethod (too_many_edits es ∷ run_rules j) k

answers_same : {T : Type 0} (f g : Option Refusal) (P Q : T → Type 0) (r : Result T Refusal) → f ≡ g → ((x : T) → f ≡ None → P x → Q x) → Answers f r P → Answers g r Q
answers_same f g P Q (Ok x) e h a = (sym e ∙ a.0, h x a.0 a.1)
answers_same f g P Q (Err x) e h (inl m) = inl m
answers_same f g P Q (Err x) e h (inr s) = inr (sym e ∙ s)

pub tree_installed : (i j k : ImageView) (c : ClassId) (tree : Method) (text : List ℕ) (m : MethodParts) (r : Result ℕ Refusal) → is_class (world i).edits c ≡ true → is_kernel_text c (pattern_selector tree.pattern) ≡ false → first_of (method_rules i.names (world i).edits c tree) ≡ None → j ≡ with_names_of i tree → world j ≡ world i → replay (constants j) j.base j.history ≡ Some (world j) → BeginsWithKernel j.names → IsCompiled j.names (world i).edits c tree text m → Answers (first_of (edit_rules (world j).edits (Install c m) ++ run_rules j)) r (λ n. (k ≡ appended j (Edited (Install c m) ∷ [])) × (n ≡ length (world k).edits)) → Answers (first_of (image_install_rules i c tree)) r (λ n. Installs i c tree text k n)
tree_installed i j k c tree text m r h f t e w lawful b p a =
    let free : is_some (kernel_method c m.selector) ≡ false = number_free j.names b c (pattern_selector tree.pattern) m.selector p.selector f in
    let mine : first_of (image_install_rules i c tree) ≡ first_of (too_many_edits (world i).edits ∷ run_rules i) = tree_part i c tree h f ∙ first_later (method_rules i.names (world i).edits c tree) (too_many_edits (world i).edits ∷ run_rules i) t in
    let runs : run_rules j ≡ run_rules i = ap run_rules e in
    let theirs : first_of (edit_rules (world j).edits (Install c m) ++ run_rules j) ≡ first_of (too_many_edits (world i).edits ∷ run_rules i) =
    ap (λ (v : World). first_of (edit_rules v.edits (Install c m) ++ run_rules j)) w ∙ edit_part (world i).edits j c m h free ∙ ap (λ (rs : List Rule). first_of (too_many_edits (world i).edits ∷ rs)) runs in
    let suited : suits j.names (world j).edits c m ≡ true = subst (λ (v : World). suits j.names v.edits c m ≡ true) (sym w) p.fitting in
    let then_world : first_of (edit_rules (world j).edits (Install c m) ++ run_rules j) ≡ None → world (appended j (Edited (Install c m) ∷ [])) ≡ record (world i) { edits = (world i).edits ++ Install c m ∷ [] } =
    λ o. edited_world j (Install c m) lawful (off_append (edit_rules (world j).edits (Install c m)) (run_rules j) o).0 suited ∙ ap (λ (v : World). record v { edits = v.edits ++ Install c m ∷ [] }) w in
    answers_same _ _ _ _ r (theirs ∙ sym mine) (λ n o q. record {
      parts = m;
      compiled = subst (λ (ns : List (List ℕ)). IsCompiled ns (world i).edits c tree text m) (sym (ap (λ (v : ImageView). v.names) q.0)) p;
      added = q.0 ∙ ap (λ (v : ImageView). appended v (Edited (Install c m) ∷ [])) e;
      grown = ap (λ (v : ImageView). world v) q.0 ∙ then_world o;
      answer = q.1;
    }) a

-- the answer of a call that asks its rules first
pub exact_answers : {T : Type 0} (first : Option Refusal) (r : Result T Refusal) (P : T → Type 0) → AnswersExactly first r P → Answers first r P
exact_answers first (Ok x) P a = a
exact_answers first (Err e) P (inl f) = inr f
exact_answers first (Err e) P (inr m) = inl m.1

-- the answer of a tree that the text spells is the answer of its install
pub install_answered : (i k : ImageView) (c : ClassId) (tree : Method) (text : List ℕ) (r : Result ℕ Refusal) → Spells tree text → Answers (first_of (image_install_rules i c tree)) r (λ n. Installs i c tree text k n) → AnswersInstall i c text k r
install_answered i k c tree text (Ok n) s a = (tree, s, a.0, a.1)
install_answered i k c tree text (Err e) s (inl m) = memory m
install_answered i k c tree text (Err e) s (inr f) = first_refusal tree s f

-- ---- what a refused install leaves

source_allowed : (i : ImageView) (c : ClassId) (tree : Method) → is_class (world i).edits c ≡ true → is_kernel_text c (pattern_selector tree.pattern) ≡ false → first_of (code_rules (world i).edits c tree) ≡ None → first_of (source_rules i c tree) ≡ None
source_allowed i c tree h k e =
    skip (not (is_class (world i).edits c)) UnknownClass ((is_kernel_text c (pattern_selector tree.pattern), KernelMethod) ∷ code_rules (world i).edits c tree) (is_not _ h)
    ∙ (skip (is_kernel_text c (pattern_selector tree.pattern)) KernelMethod (code_rules (world i).edits c tree) k ∙ e)

some_refusal : (d e : Refusal) → Some d ≡ Some e → d ≡ e
some_refusal d e h = cc

-- a refusal says what is wrong with a source
abbrev SaysWrong : Refusal → Type 0
SaysWrong e = (kind : SourceFault) × (offset : ℕ) × (e ≡ BadSource kind offset)

says_chosen : (b : Bool) (d e : Refusal) (o : Option Refusal) → SaysWrong d → (o ≡ Some e → SaysWrong e) → cond b (Some d) o ≡ Some e → SaysWrong e
says_chosen true d e o h f k = subst SaysWrong (some_refusal d e k) h
says_chosen false d e o h f k = f k

none_wrong : (e : Refusal) → None ≡ Some e → SaysWrong e
none_wrong e h = cc

-- what a method of the grammar has no code for is a bad source
code_wrong : (es : List Edit) (c : ClassId) (tree : Method) (e : Refusal) → first_of (code_rules es c tree) ≡ Some e → SaysWrong e
code_wrong es c tree e =
    let names = unknown (scope_of es c tree) (method_code tree) in
    let twice = clashing (scope_of es c tree).slots (locals_of tree) in
    let large = says_chosen (not (is_small (method_code tree))) (BadSource TooLarge 0) e None (TooLarge, 0, refl) (none_wrong e) in
    let again = says_chosen (nat_lt 0 (length twice)) (BadSource DuplicateName (least twice)) e (first_of ((not (is_small (method_code tree)), BadSource TooLarge 0) ∷ [])) (DuplicateName, least twice, refl) large in
    says_chosen (nat_lt 0 (length names)) (BadSource UnknownName (least names)) e (first_of ((nat_lt 0 (length twice), BadSource DuplicateName (least twice)) ∷ (not (is_small (method_code tree)), BadSource TooLarge 0) ∷ [])) (UnknownName, least names, refl) again

-- a bad source leaves all as it was
wrong_left : (i j : ImageView) (c : ClassId) (text : List ℕ) (e : Refusal) → SaysWrong e → j ≡ i → LeavesNames i c text e j
wrong_left i j c text e w h = subst (λ (r : Refusal). LeavesNames i c text r j) (sym w.2) h

-- where the names that the tree needs are too many, or it has no code
tree_left_by : (i j : ImageView) (c : ClassId) (tree : Method) (text : List ℕ) (e : Refusal) (code : Option Refusal) (full : Bool) → first_of (code_rules (world i).edits c tree) ≡ code → nat_lt 8192 (length (interned_all i.names (needed_texts tree))) ≡ full → (code ≡ None → AddsNames InternsFirst i c text j) → ((d : Refusal) → code ≡ Some d → j ≡ i) → IsFull j.names e → first_of (method_rules i.names (world i).edits c tree) ≡ Some e → LeavesNames i c text e j
tree_left_by i j c tree text e (Some d) full h f adds untouched is_full refused =
    let first : first_of (method_rules i.names (world i).edits c tree) ≡ Some d = first_here (code_rules (world i).edits c tree) (names_rule i.names (needed_texts tree) ∷ []) d h in
    let same : d ≡ e = some_refusal d e (sym first ∙ refused) in
    subst (λ (r : Refusal). LeavesNames i c text r j) same (wrong_left i j c text d (code_wrong (world i).edits c tree d h) (untouched d refl))
tree_left_by i j c tree text e None true h f adds untouched is_full refused =
    let now : first_of (names_rule i.names (needed_texts tree) ∷ []) ≡ Some e = sym (first_later (code_rules (world i).edits c tree) (names_rule i.names (needed_texts tree) ∷ []) h) ∙ refused in
    let then_full : Some (TooMany Names) ≡ Some e = rw f at now in
    let same : TooMany Names ≡ e = some_refusal (TooMany Names) e then_full in
    subst (λ (r : Refusal). LeavesNames i c text r j) same (adds refl, is_full (sym same))
tree_left_by i j c tree text e None false h f adds untouched is_full refused =
    let now : first_of (names_rule i.names (needed_texts tree) ∷ []) ≡ Some e = sym (first_later (code_rules (world i).edits c tree) (names_rule i.names (needed_texts tree) ∷ []) h) ∙ refused in
    let none : None ≡ Some e = rw f at now in
    cc

no_memory_left : (i j : ImageView) (c : ClassId) (text : List ℕ) (e : Refusal) (code : Option Refusal) → (code ≡ None → AddsNames InternsFirst i c text j) → ((d : Refusal) → code ≡ Some d → j ≡ i) → e ≡ NoMemory → LeavesNames i c text e j
no_memory_left i j c text e None adds untouched m = subst (λ (r : Refusal). LeavesNames i c text r j) (sym m) (inr (adds refl))
no_memory_left i j c text e (Some d) adds untouched m = subst (λ (r : Refusal). LeavesNames i c text r j) (sym m) (inl (untouched d refl))

-- what is left where the tree is refused
pub tree_left : (i j : ImageView) (c : ClassId) (tree : Method) (text : List ℕ) (e : Refusal) → Spells tree text → is_class (world i).edits c ≡ true → is_kernel_text c (pattern_selector tree.pattern) ≡ false → InternsFirst i.names (needed_texts tree) j.names → j ≡ record i { names = j.names } → ((d : Refusal) → first_of (code_rules (world i).edits c tree) ≡ Some d → j ≡ i) → IsFull j.names e → (e ≡ NoMemory) ⊎ (first_of (method_rules i.names (world i).edits c tree) ≡ Some e) → LeavesNames i c text e j
tree_left i j c tree text e s h k some only untouched full refused =
    let adds : first_of (code_rules (world i).edits c tree) ≡ None → AddsNames InternsFirst i c text j = λ b. record { method = tree; spelled = s; accepted = source_allowed i c tree h k b; interned = some; only = only } in
    elim refused [
      | inl m ↦ no_memory_left i j c text e (first_of (code_rules (world i).edits c tree)) adds untouched m
      | inr f ↦ tree_left_by i j c tree text e (first_of (code_rules (world i).edits c tree)) (nat_lt 8192 (length (interned_all i.names (needed_texts tree)))) refl refl adds untouched full f
    ]

-- the refusals of an edit whose class is there and whose selector is no kernel method's
edit_left_by : (i j : ImageView) (c : ClassId) (text : List ℕ) (e : Refusal) (t u v : Bool) → (es : List Edit) → nat_le 4096 (length es) ≡ t → nat_le 2048 (edits_made j) ≡ u → nat_lt j.most_items (length j.history + 1) ≡ v → AddsNames InternsAll i c text j → first_of (too_many_edits es ∷ run_rules j) ≡ Some e → LeavesNames i c text e j
edit_left_by i j c text e true u v es a b d adds refused =
    let now : Some (TooMany Edits) ≡ Some e = rw a at refused in
    subst (λ (r : Refusal). LeavesNames i c text r j) (some_refusal (TooMany Edits) e now) adds
edit_left_by i j c text e false true v es a b d adds refused =
    let now : Some (TooMany Edits) ≡ Some e = rw (a, b) at refused in
    subst (λ (r : Refusal). LeavesNames i c text r j) (some_refusal (TooMany Edits) e now) adds
edit_left_by i j c text e false false true es a b d adds refused =
    let now : Some HistoryFull ≡ Some e = rw (a, b, d) at refused in
    subst (λ (r : Refusal). LeavesNames i c text r j) (some_refusal HistoryFull e now) adds
edit_left_by i j c text e false false false es a b d adds refused =
    let now : None ≡ Some e = rw (a, b, d) at refused in
    cc

-- what is left where the edit is refused
pub edit_left : {T : Type 0} (r : Result T Refusal) (P : T → Type 0) (i j k : ImageView) (c : ClassId) (tree : Method) (text : List ℕ) (m : MethodParts) → Spells tree text → is_class (world i).edits c ≡ true → is_kernel_text c (pattern_selector tree.pattern) ≡ false → first_of (method_rules i.names (world i).edits c tree) ≡ None → j ≡ with_names_of i tree → world j ≡ world i → BeginsWithKernel j.names → place_of j.names (pattern_selector tree.pattern) ≡ Some m.selector.0 → OnErr r (k ≡ j) → Answers (first_of (edit_rules (world j).edits (Install c m) ++ run_rules j)) r P → IfErr r (λ e. LeavesNames i c text e k)
edit_left (Ok x) P i j k c tree text m s h f t e w b at same a = tt
edit_left (Err x) P i j k c tree text m s h f t e w b at same a =
    let code : first_of (code_rules (world i).edits c tree) ≡ None = code_there (first_of (code_rules (world i).edits c tree)) refl in
    let allowed : first_of (source_rules i c tree) ≡ None = source_allowed i c tree h f code in
    let names : j.names ≡ interned_all i.names (needed_texts tree) = ap (λ (v : ImageView). v.names) e in
    let only : j ≡ record i { names = j.names } = e ∙ ap (λ (ns : List (List ℕ)). record i { names = ns }) (sym names) in
    let adds : AddsNames InternsAll i c text j = record { method = tree; spelled = s; accepted = allowed; interned = names; only = only } in
    let some : AddsNames InternsFirst i c text j = record { method = tree; spelled = s; accepted = allowed; interned = first-all i.names (needed_texts tree) j.names names; only = only } in
    subst (λ (v : ImageView). LeavesNames i c text x v) (sym same) (elim a [
      | inl none ↦ subst (λ (r : Refusal). LeavesNames i c text r j) (sym none) (inr some)
      | inr first ↦
          let free : is_some (kernel_method c m.selector) ≡ false = number_free j.names b c (pattern_selector tree.pattern) m.selector at f in
          let here : is_class (world j).edits c ≡ true = subst (λ (v : World). is_class v.edits c ≡ true) (sym w) h in
          edit_left_by i j c text x (nat_le 4096 (length (world j).edits)) (nat_le 2048 (edits_made j)) (nat_lt j.most_items (length j.history + 1)) (world j).edits refl refl refl adds (sym (edit_part (world j).edits j c m here free) ∙ first)
    ])
  where
    code_there : (v : Option Refusal) → first_of (code_rules (world i).edits c tree) ≡ v → first_of (code_rules (world i).edits c tree) ≡ None
    code_there None g = g
    code_there (Some d) g = let some : first_of (method_rules i.names (world i).edits c tree) ≡ Some d = first_here (code_rules (world i).edits c tree) (names_rule i.names (needed_texts tree) ∷ []) d g in cc
