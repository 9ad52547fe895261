-- Class tables whose methods are compiled from their sources.
use Rattle.std.specs.Prelude.{◌≡◌, ℕ, List, Some, None, slice_get, take}
use Rattle.st_classes.specs.declared.values.ClassId.{ClassId}
use Rattle.st_classes.specs.declared.edits.Edit.{Edit}
use Rattle.st_classes.specs.declared.edits.Edit.TheVariants.{Define, Install, Remove, Reparent}
use Rattle.st_classes.specs.declared.methods.MethodParts.{MethodParts}
use Rattle.st_classes.specs.Refusals.{first_of}
use Rattle.st_reader.specs.Syntax.{Method}
use Rattle.st_reader.specs.Spelling.{Spells}
use Rattle.st_compile.specs.CompiledMethod.{IsCompiled}
use Rattle.st_compile.specs.CompileRules.{code_rules}

-- A method is the one that its own source spells, compiled in a class at these edits; no rule refuses its code. So its selector, and the
-- selectors and symbols of its code, are among the names.
pub record IsCompiledFrom (names : List (List ℕ)) (edits : List Edit) (c : ClassId) (m : MethodParts) : Type 0 where
  pub method : Method
  pub spelled : Spells method m.source
  pub accepted : first_of (code_rules edits c method) ≡ None
  pub compiled : IsCompiled names edits c method m.source m

-- the method of an install is compiled from its source
abbrev pub IsCompiledEdit : List (List ℕ) → List Edit → Edit → Type 0
IsCompiledEdit names edits (Define name parent slots) = Unit {0}
IsCompiledEdit names edits (Install c m) = IsCompiledFrom names edits c m
IsCompiledEdit names edits (Remove c s) = Unit {0}
IsCompiledEdit names edits (Reparent c p) = Unit {0}

-- each installed method is compiled from its source at the edits before it
abbrev pub AllCompiled : List (List ℕ) → List Edit → Type 0
AllCompiled names edits = (place : ℕ) (c : ClassId) (m : MethodParts) →
    slice_get edits place ≡ Some (Install c m) → IsCompiledFrom names (take place edits) c m
