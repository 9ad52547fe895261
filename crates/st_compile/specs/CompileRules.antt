-- When a method of the grammar has no code in a class.
use Rattle.std.specs.Prelude.{ℕ, ◌&&◌, List, [], ◌∷◌, ◌++◌, Option, Some, None, length, map, filter, min}
use Rattle.std.specs.Prelude.{Bool, true, not, is_some, nat_le, nat_lt}
use Rattle.std.specs.List.{list_all, list_any}
use Rattle.std.specs.Str.{bytes_eq}
use Rattle.st_classes.specs.declared.values.ClassId.{ClassId}
use Rattle.st_classes.specs.declared.edits.Edit.{Edit}
use Rattle.st_classes.specs.declared.refusals.Refusal.{Refusal}
use Rattle.st_classes.specs.declared.refusals.Refusal.TheVariants.{BadSource}
use Rattle.st_classes.specs.declared.refusals.SourceFault.TheVariants.{UnknownName, DuplicateName, TooLarge}
use Rattle.st_classes.specs.Refusals.{Rule}
use Rattle.st_reader.specs.declared.trees.Name.{Name}
use Rattle.st_reader.specs.Syntax.{Method}
use Rattle.st_compile.specs.DraftCode.{Word, Line, variable, store}
use Rattle.st_compile.specs.Equations.{method_code}
use Rattle.st_compile.specs.NameResolution.{Scope, pushed, stored}
use Rattle.st_reader.specs.Variables.{locals_of}
use Rattle.st_compile.specs.Scopes.{scope_of}
use Rattle.st_compile.specs.NeededNames.{names_rule, needed_texts}

-- a word's name, if it has one, means something in a scope; `super` means the receiver
abbrev pub is_known : Scope → Word → Bool
is_known scope (variable n) = is_some (pushed scope n.text)
is_known scope (store n) = is_some (stored scope n.text)
is_known scope _ = true

-- where a word's name is in the source
abbrev pub start_of : Word → ℕ
start_of (variable n) = n.span.start
start_of (store n) = n.span.start
start_of _ = 0

-- the least of the numbers; 0 if there are none
abbrev pub least : List ℕ → ℕ
least [] = 0
least (n ∷ []) = n
least (n ∷ m ∷ ns) = min n (least (m ∷ ns))

-- the least of the numbers, if there are any
abbrev pub least_of : List ℕ → Option ℕ
least_of [] = None
least_of (n ∷ ns) = Some (least (n ∷ ns))

-- the lesser of two numbers, or the one that exists
abbrev pub lesser : Option ℕ → Option ℕ → Option ℕ
lesser None b = b
lesser (Some n) None = Some n
lesser (Some n) (Some m) = Some (min n m)

-- the places in the source of names that mean nothing
abbrev pub unknown : Scope → List Line → List ℕ
unknown scope ls = map (λ l. start_of l.word) (filter (λ l. not (is_known scope l.word)) ls)

-- the places in the source of arguments and temporaries that have the names of instance variables
abbrev pub clashing : List (List ℕ) → List Name → List ℕ
clashing slots ns = map (λ n. n.span.start) (filter (λ n. list_any (bytes_eq n.text) slots) ns)

-- at most 1,024 instructions, and at most 64 operands before each
abbrev pub is_small : List Line → Bool
is_small ls = nat_le (length ls) 1024 && list_all (λ l. nat_le l.depth 64) ls

-- a refusal that applies if there is such a place, and names the first one
abbrev pub at_first_place : (ℕ → Refusal) → List ℕ → Rule
at_first_place refusal places = (nat_lt 0 (length places), refusal (least places))

-- a name means nothing
abbrev pub unknown_rule : Scope → List Line → Rule
unknown_rule scope ls = at_first_place (BadSource UnknownName) (unknown scope ls)

-- an argument or a temporary has the name of an instance variable
abbrev pub clash_rule : Scope → List Name → Rule
clash_rule scope locals = at_first_place (BadSource DuplicateName) (clashing scope.slots locals)

-- a code is too large
abbrev pub size_rule : List Line → Rule
size_rule ls = (not (is_small ls), BadSource TooLarge 0)

-- the refusals of a code in a scope, in their order
abbrev pub scope_rules : Scope → List Name → List Line → List Rule
scope_rules scope locals ls = unknown_rule scope ls ∷ clash_rule scope locals ∷ size_rule ls ∷ []

-- the refusals of a method's code in a class, in their order
abbrev pub code_rules : List Edit → ClassId → Method → List Rule
code_rules edits c m = scope_rules (scope_of edits c m) (locals_of m) (method_code m)

-- the refusals of a method of the grammar, in their order
abbrev pub method_rules : List (List ℕ) → List Edit → ClassId → Method → List Rule
method_rules names edits c m = code_rules edits c m ++ names_rule names (needed_texts m) ∷ []
