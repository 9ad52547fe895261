-- The method of a tree.
use Rattle.std.specs.Prelude.{◌≡◌, ℕ, List, length, map, true, Some}
use Rattle.st_classes.specs.declared.values.ClassId.{ClassId}
use Rattle.st_classes.specs.declared.values.Selector.{Selector}
use Rattle.st_classes.specs.declared.edits.Edit.{Edit}
use Rattle.st_classes.specs.declared.instructions.Instruction.{Instruction}
use Rattle.st_classes.specs.declared.methods.MethodParts.{MethodParts}
use Rattle.st_classes.specs.Methods.{send_places}
use Rattle.st_classes.specs.Selectors.{place_of}
use Rattle.st_classes.specs.MethodSuits.{suits}
use Rattle.st_reader.specs.Syntax.{Method}
use Rattle.st_compile.specs.Equations.{method_code}
use Rattle.st_compile.specs.NameResolution.{instructions_of}
use Rattle.st_reader.specs.Variables.{arguments_of, temporaries_of}
use Rattle.st_compile.specs.Scopes.{pattern_selector, scope_of}

-- the parts of a method of the grammar in a class, from the number of its selector, its instructions and its source
abbrev pub parts_of : ClassId → Method → Selector → List Instruction → List ℕ → MethodParts
parts_of c method selector code text = record {
  holder = c;
  selector = selector;
  arguments = length (arguments_of method.pattern);
  temporaries = length (temporaries_of method.temporaries);
  code = code;
  depths = map (λ l. l.depth) (method_code method);
  sites = send_places 0 code;
  source = text;
}

-- the compiled method of a method of the grammar in a class; selectors and symbols have their numbers in the given
-- names
pub record IsCompiled
    (names : List (List ℕ)) (edits : List Edit) (c : ClassId)
    (method : Method) (text : List ℕ) (m : MethodParts) : Type 0 where
  pub selector : place_of names (pattern_selector method.pattern) ≡ Some m.selector.0
  pub code : instructions_of names (scope_of edits c method) (method_code method) ≡ Some m.code
  pub parts : m ≡ parts_of c method m.selector m.code text
  pub fitting : suits names edits c m ≡ true
