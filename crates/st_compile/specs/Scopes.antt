-- What the names of a method mean in a class, and the scope as the code holds it.
use Rattle.std.specs.Prelude.{ℕ, ◌≤◌, List, length, map}
use Rattle.std.specs.List.{flat_map}
use Rattle.std.specs.Borrow.{Bor}
use Rattle.st_classes.specs.declared.values.ClassId.{ClassId}
use Rattle.st_classes.specs.declared.edits.Edit.{Edit}
use Rattle.st_classes.specs.Classes.{slots}
use Rattle.st_reader.specs.declared.trees.Name.{Name}
use Rattle.st_reader.specs.declared.trees.Pattern.{Pattern}
use Rattle.st_reader.specs.declared.trees.Pattern.TheVariants.{Unary, Binary, Keyword}
use Rattle.st_reader.specs.Variables.{locals_of, texts}
use Rattle.st_reader.specs.Syntax.{Method}
use Rattle.st_compile.specs.declared.scope.Scope.{Scope as Holding}
use Rattle.st_compile.specs.NameResolution.{Scope}

-- the selector of a pattern
abbrev pub pattern_selector : Pattern → List ℕ
pattern_selector (Unary n) = n.text
pattern_selector (Binary n argument) = n.text
pattern_selector (Keyword ps) = flat_map (λ p. p.keyword.text) ps

-- the variables of a method in a class, and the class table
abbrev pub scope_of : List Edit → ClassId → Method → Scope
scope_of edits c m = record { edits = edits; slots = slots edits c; locals = texts (locals_of m) }

-- the names that references lead to
abbrev pub named : List (Bor Name) → List Name
named ns = map (λ n. n.now) ns

-- the scope that the code holds
abbrev pub scope_seen : Holding → Scope
scope_seen s = record { edits = s.version.now; slots = s.slots.now; locals = map (λ n. n.text) (named s.locals.items) }

-- at most 64 instance variables, and at most 64 arguments and temporaries
pub record HasFew (scope : Scope) : Type 0 where
  pub slots : length scope.slots ≤ 64
  pub locals : length scope.locals ≤ 64
