-- The row of a class in the class table.
use Rattle.std.specs.Prelude.{◌≡◌, ℕ, List, ◌++◌, Option, Some, None, ◌==◌, if◌then◌else◌, option_map, []}
use Rattle.std.specs.Map.{lookup}
use Rattle.st_classes.specs.declared.values.ClassId.{ClassId}
use Rattle.st_classes.specs.declared.values.Selector.{Selector}
use Rattle.st_classes.specs.declared.values.MethodId.{MethodId}
use Rattle.st_classes.specs.declared.edits.Edit.{Edit}
use Rattle.st_classes.specs.declared.kernel.Found.{Found}
use Rattle.st_classes.specs.declared.kernel.Found.TheVariants.{User, Kernel as FoundKernel}
use Rattle.st_classes.specs.declared.class_rows.ClassRow.{ClassRow}
use Rattle.st_classes.specs.Kernel.{kernel_method}
use Rattle.st_classes.specs.Classes.{ClassDef, class_name, parent, slots}
use Rattle.st_classes.specs.Walks.{own, or_else}

-- the method for a selector, by the first pair that has the selector
abbrev pub method_for : List (Selector × MethodId) → Selector → Option MethodId
method_for methods s = lookup (λ (t : Selector). s.0 == t.0) methods

-- the user's method for a selector in a row
abbrev pub row_method : ClassRow → Selector → Option MethodId
row_method row s = method_for row.methods s

-- the own method of a row's class: the user's, or else the kernel's
abbrev pub row_own : ClassRow → ClassId → Selector → Option Found
row_own row c s = or_else (option_map User (row_method row s)) (option_map FoundKernel (kernel_method c s))

-- a row holds what the edits say of the class
pub record IsRow (edits : List Edit) (c : ClassId) (row : ClassRow) : Type 0 where
  pub named : class_name edits c ≡ Some row.name
  pub above : parent edits c ≡ row.superclass
  pub variables : slots edits c ≡ row.slots
  pub decides : (s : Selector) → own edits c s ≡ row_own row c s

-- two rows differ at most in their methods
pub record SameClass (row after : ClassRow) : Type 0 where
  pub name : after.name ≡ row.name
  pub above : after.superclass ≡ row.superclass
  pub variables : after.slots ≡ row.slots

-- the second row has this method at the selector, or none; all else is equal
pub record Puts (row after : ClassRow) (t : Selector) (o : Option MethodId) : Type 0 where
  pub same : SameClass row after
  pub methods : (s : Selector) → row_method after s ≡ (if t.0 == s.0 then o else row_method row s)

-- the row of a new class under a given superclass
pub record IsUnder (above row : ClassRow) (text : List ℕ) (p : ClassId) (added : List (List ℕ)) : Type 0 where
  pub name : row.name ≡ text
  pub superclass : row.superclass ≡ Some p
  pub variables : row.slots ≡ above.slots ++ added
  pub methods : (s : Selector) → row_method row s ≡ None

-- the second row differs in its superclass alone, which is p
pub record IsMoved (row after : ClassRow) (p : ClassId) : Type 0 where
  pub name : after.name ≡ row.name
  pub superclass : after.superclass ≡ Some p
  pub variables : after.slots ≡ row.slots
  pub methods : after.methods ≡ row.methods

-- a class that adds no instance variable
abbrev pub plain_class : List ℕ → Option ClassId → ClassDef
plain_class name parent = record { name = name; parent = parent; slots = [] }

-- the row of a kernel class: no instance variables, and no methods of the user's
pub record IsPlain (row : ClassRow) (d : ClassDef) : Type 0 where
  pub name : row.name ≡ d.name
  pub superclass : row.superclass ≡ d.parent
  pub variables : row.slots ≡ []
  pub methods : (s : Selector) → row_method row s ≡ None
