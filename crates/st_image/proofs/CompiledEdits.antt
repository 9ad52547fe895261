-- Methods that are compiled from their sources stay so with more names, and with one edit more.
use Rattle.std.proofs.Common.{arith, ◌≡◌, ℕ, ◌≤◌, Bool, true, false, List, [], ◌∷◌, ◌++◌, length, take, Option, Some, None, option_map, option_and_then, Result, Ok, Err, OnOk, OnErr, inl, inr, refl, sym, ap, subst, ◌∙◌}
use Rattle.std.specs.List.{flat_map}
use Rattle.st_classes.specs.declared.values.ClassId.{ClassId}
use Rattle.st_classes.specs.declared.edits.Edit.{Edit}
use Rattle.st_classes.specs.declared.edits.Edit.TheVariants.{Install}
use Rattle.st_classes.specs.declared.instructions.Instruction.{Instruction}
use Rattle.st_classes.specs.declared.methods.MethodParts.{MethodParts}
use Rattle.st_classes.specs.Refusals.{first_of}
use Rattle.st_classes.specs.Names.{is_name, interned}
use Rattle.st_classes.specs.Selectors.{place_of}
use Rattle.st_classes.proofs.Naming.{absent, place_of-at}
use Rattle.st_classes.proofs.LawLists.{slice_get_push, take_old, take_whole}
use Rattle.st_classes.proofs.LawGrowing.{suits_more_names}
use Rattle.st_reader.specs.Syntax.{Method}
use Rattle.st_reader.specs.Spelling.{Spells}
use Rattle.st_compile.specs.DraftCode.{Word, Line, literal, symbol, receiver, variable, store, drop, repeat, message, super_message, jump, jump_false, jump_true, return}
use Rattle.st_compile.specs.Equations.{method_code}
use Rattle.st_compile.specs.NameResolution.{Scope, instruction_of, instructions_of, word_texts}
use Rattle.st_compile.specs.Scopes.{pattern_selector, scope_of}
use Rattle.st_compile.specs.NeededNames.{interned_all, names_rule, needed_texts}
use Rattle.st_compile.specs.CompiledMethod.{IsCompiled}
use Rattle.st_compile.specs.CompileRules.{code_rules, method_rules}
use Rattle.st_compile.proofs.Places.{place-append}
use Rattle.st_compile.proofs.Interning.{Grows, grows-interned, interned_all-append, names-room}
use Rattle.st_image.specs.CompiledEdits.{IsCompiledFrom, IsCompiledEdit, AllCompiled}
use Rattle.st_image.proofs.Lists.{off_append, first_later}

-- ---- more names

number_more : {B : Type 0} (f : ℕ → B) (names more : List (List ℕ)) (text : List ℕ) (o : Option ℕ) (b : B) → place_of names text ≡ o → option_map f o ≡ Some b → option_map f (place_of (names ++ more) text) ≡ Some b
number_more f names more text None b at h = cc
number_more f names more text (Some n) b at h = ap (option_map f) (place-append names more text n at) ∙ h

numbered : {B : Type 0} (f : ℕ → B) (names more : List (List ℕ)) (text : List ℕ) (b : B) → option_map f (place_of names text) ≡ Some b → option_map f (place_of (names ++ more) text) ≡ Some b
numbered f names more text b h = number_more f names more text (place_of names text) b refl h

word_more : (names more : List (List ℕ)) (scope : Scope) (w : Word) (i : Instruction) → instruction_of names scope w ≡ Some i → instruction_of (names ++ more) scope w ≡ Some i
word_more names more scope (literal v) i h = h
word_more names more scope (symbol text) i h = numbered _ names more text i h
word_more names more scope receiver i h = h
word_more names more scope (variable n) i h = h
word_more names more scope (store n) i h = h
word_more names more scope drop i h = h
word_more names more scope repeat i h = h
word_more names more scope (message text arguments) i h = numbered _ names more text i h
word_more names more scope (super_message text arguments) i h = numbered _ names more text i h
word_more names more scope (jump distance) i h = h
word_more names more scope (jump_false distance) i h = h
word_more names more scope (jump_true distance) i h = h
word_more names more scope return i h = h

-- an instruction and those behind it are there
record AreThere (o : Option Instruction) (p : Option (List Instruction)) (is : List Instruction) : Type 0 where
  first : Instruction
  rest : List Instruction
  here : o ≡ Some first
  behind : p ≡ Some rest
  all : Some (first ∷ rest) ≡ Some is

are_there : (o : Option Instruction) (p : Option (List Instruction)) (is : List Instruction) → option_and_then (λ i. option_map (λ js. i ∷ js) p) o ≡ Some is → AreThere o p is
are_there None p is h = cc
are_there (Some i) None is h = cc
are_there (Some i) (Some js) is h = record { first = i; rest = js; here = refl; behind = refl; all = h }

lines_more : (names more : List (List ℕ)) (scope : Scope) (ls : List Line) (is : List Instruction) → instructions_of names scope ls ≡ Some is → instructions_of (names ++ more) scope ls ≡ Some is
lines_more names more scope [] is h = h
lines_more names more scope (l ∷ ls) is h =
    let t = are_there (instruction_of names scope l.word) (instructions_of names scope ls) is h in
    rw (word_more names more scope l.word t.first t.here, lines_more names more scope ls t.rest t.behind) t.all

pub method_more : (names more : List (List ℕ)) (edits : List Edit) (c : ClassId) (method : Method) (text : List ℕ) (m : MethodParts) → IsCompiled names edits c method text m → IsCompiled (names ++ more) edits c method text m
method_more names more edits c method text m p = record {
  selector = place-append names more (pattern_selector method.pattern) m.selector.0 p.selector;
  code = lines_more names more (scope_of edits c method) (method_code method) m.code p.code;
  parts = p.parts;
  fitting = suits_more_names names more edits c m p.fitting;
}

from_more : (names more : List (List ℕ)) (edits : List Edit) (c : ClassId) (m : MethodParts) → IsCompiledFrom names edits c m → IsCompiledFrom (names ++ more) edits c m
from_more names more edits c m p = record {
  method = p.method;
  spelled = p.spelled;
  accepted = p.accepted;
  compiled = method_more names more edits c p.method m.source m p.compiled;
}

pub all_more : (names more : List (List ℕ)) (edits : List Edit) → AllCompiled names edits → AllCompiled (names ++ more) edits
all_more names more edits all = λ place c m at. from_more names more (take place edits) c m (all place c m at)

pub all_grown : (names after : List (List ℕ)) (edits : List Edit) → Grows names after → AllCompiled names edits → AllCompiled after edits
all_grown names after edits g all = subst (λ (ns : List (List ℕ)). AllCompiled ns edits) (sym g.1) (all_more names g.0 edits all)

-- a text is interned, or refused
pub all_interned : {T E : Type 0} (r : Result T E) (names after : List (List ℕ)) (text : List ℕ) (edits : List Edit) → AllCompiled names edits → OnOk r (after ≡ interned names text) → OnErr r (after ≡ names) → AllCompiled after edits
all_interned (Ok x) names after text edits all a b = let g = grows-interned names text in all_grown names after edits (g.0, a ∙ g.1) all
all_interned (Err e) names after text edits all a b = subst (λ (ns : List (List ℕ)). AllCompiled ns edits) (sym b) all

-- ---- edits

pub none_compiled : (names : List (List ℕ)) → AllCompiled names []
none_compiled names = λ place c m at. cc

last_compiled : (names : List (List ℕ)) (edits : List Edit) (e : Edit) (c : ClassId) (m : MethodParts) → e ≡ Install c m → IsCompiledEdit names edits e → IsCompiledFrom names edits c m
last_compiled names edits e c m is h = subst (IsCompiledEdit names edits) is h

-- one edit more
pub all_with : (names : List (List ℕ)) (edits : List Edit) (e : Edit) → AllCompiled names edits → IsCompiledEdit names edits e → AllCompiled names (edits ++ e ∷ [])
all_with names edits e all h = λ place c m at. elim (slice_get_push edits e (Install c m) place at) [
  | inl w ↦ subst (λ (es : List Edit). IsCompiledFrom names es c m) (sym (take_old edits (e ∷ []) place (omega (arith, w.0)))) (all place c m w.1)
  | inr w ↦ subst (λ (es : List Edit). IsCompiledFrom names es c m) (sym (ap (λ (n : ℕ). take n (edits ++ e ∷ [])) w.0 ∙ take_whole edits (e ∷ []))) (last_compiled names edits e c m w.1 h)
]

-- a method that was read and compiled is compiled from its source
pub read_compiled : (older names : List (List ℕ)) (edits : List Edit) (c : ClassId) (method : Method) (text : List ℕ) (m : MethodParts) → Spells method text → first_of (method_rules older edits c method) ≡ None → IsCompiled names edits c method text m → IsCompiledFrom names edits c m
read_compiled older names edits c method text m spelled accepted p =
    let same : text ≡ m.source = sym (ap (λ (x : MethodParts). x.source) p.parts) in
    record {
      method = method;
      spelled = subst (Spells method) same spelled;
      accepted = (off_append (code_rules edits c method) (names_rule older (needed_texts method) ∷ []) accepted).0;
      compiled = subst (λ (t : List ℕ). IsCompiled names edits c method t m) same p;
    }

-- ---- what a compiled method needs

-- a text with a number is a name already
stays : (names : List (List ℕ)) (text : List ℕ) (n : ℕ) → place_of names text ≡ Some n → interned names text ≡ names
stays names text n h = by (is_name names text) refl
  where
    by : (b : Bool) → is_name names text ≡ b → interned names text ≡ names
    by true e = rw e refl
    by false e = absurd (absent names text n e (place_of-at names text n h))

stays_by : {B : Type 0} (f : ℕ → B) (names : List (List ℕ)) (text : List ℕ) (o : Option ℕ) (b : B) → place_of names text ≡ o → option_map f o ≡ Some b → interned names text ≡ names
stays_by f names text None b at h = cc
stays_by f names text (Some n) b at h = stays names text n at

word_stays : (names : List (List ℕ)) (scope : Scope) (w : Word) (i : Instruction) → instruction_of names scope w ≡ Some i → interned_all names (word_texts w) ≡ names
word_stays names scope (literal v) i h = refl
word_stays names scope (symbol text) i h = stays_by _ names text (place_of names text) i refl h
word_stays names scope receiver i h = refl
word_stays names scope (variable n) i h = refl
word_stays names scope (store n) i h = refl
word_stays names scope drop i h = refl
word_stays names scope repeat i h = refl
word_stays names scope (message text arguments) i h = stays_by _ names text (place_of names text) i refl h
word_stays names scope (super_message text arguments) i h = stays_by _ names text (place_of names text) i refl h
word_stays names scope (jump distance) i h = refl
word_stays names scope (jump_false distance) i h = refl
word_stays names scope (jump_true distance) i h = refl
word_stays names scope return i h = refl

lines_stay : (names : List (List ℕ)) (scope : Scope) (ls : List Line) (is : List Instruction) → instructions_of names scope ls ≡ Some is → interned_all names (flat_map (λ l. word_texts l.word) ls) ≡ names
lines_stay names scope [] is h = refl
lines_stay names scope (l ∷ ls) is h =
    let t = are_there (instruction_of names scope l.word) (instructions_of names scope ls) is h in
    interned_all-append names (word_texts l.word) (flat_map (λ (x : Line). word_texts x.word) ls)
    ∙ ap (λ (ns : List (List ℕ)). interned_all ns (flat_map (λ (x : Line). word_texts x.word) ls)) (word_stays names scope l.word t.first t.here)
    ∙ lines_stay names scope ls t.rest t.behind

-- the names that a compiled method needs are there
pub needs_none : (names : List (List ℕ)) (edits : List Edit) (c : ClassId) (method : Method) (text : List ℕ) (m : MethodParts) → IsCompiled names edits c method text m → interned_all names (needed_texts method) ≡ names
needs_none names edits c method text m p =
    ap (λ (ns : List (List ℕ)). interned_all ns (flat_map (λ (x : Line). word_texts x.word) (method_code method))) (stays names (pattern_selector method.pattern) m.selector.0 p.selector)
    ∙ lines_stay names (scope_of edits c method) (method_code method) m.code p.code

-- so no rule refuses it, where the names are not too many
pub rules_none : (names : List (List ℕ)) (edits : List Edit) (c : ClassId) (m : MethodParts) → length names ≤ 8192 → (p : IsCompiledFrom names edits c m) → first_of (method_rules names edits c p.method) ≡ None
rules_none names edits c m few p =
    let few_after : length (interned_all names (needed_texts p.method)) ≤ 8192 = subst (λ (ns : List (List ℕ)). length ns ≤ 8192) (sym (needs_none names edits c p.method m.source m p.compiled)) few in
    first_later (code_rules edits c p.method) (names_rule names (needed_texts p.method) ∷ []) p.accepted ∙ names-room names (needed_texts p.method) few_after
