-- The rows, depths and names of the class table of a list of edits.
use Rattle.std.specs.Prelude.{◌≡◌, ℕ, ◌≤◌, List, length, Option, Some, None, map, slice_get, option_map, position, if◌then◌else◌}
use Rattle.std.specs.List.{AllZip}
use Rattle.std.specs.Str.{bytes_eq}
use Rattle.st_classes.specs.declared.values.ClassId.{ClassId}
use Rattle.st_classes.specs.declared.values.Selector.{Selector}
use Rattle.st_classes.specs.declared.edits.Edit.{Edit}
use Rattle.st_classes.specs.declared.class_rows.ClassRow.{ClassRow}
use Rattle.st_classes.specs.Kernel.{class}
use Rattle.st_classes.specs.declared.values.MethodId.{MethodId}
use Rattle.st_classes.specs.declared.kernel.Found.{Found}
use Rattle.st_classes.specs.declared.kernel.Found.TheVariants.{User}
use Rattle.st_classes.specs.Classes.{ClassDef, classes_after, class_count, class_named}
use Rattle.st_classes.specs.Depths.{AreDepths}
use Rattle.st_classes.specs.Walks.{own, decided, is_at}
use Rattle.st_classes.specs.EditLists.{AreLawful, AllSound}
use Rattle.st_classes.specs.ClassRows.{IsPlain, IsRow}
use Rattle.st_classes.specs.ClassIndexes.{Naming, named_in}

-- one row for each class, which holds what the edits say of it
pub record AreRows (edits : List Edit) (rows : List ClassRow) : Type 0 where
  pub long : length rows ≡ class_count edits
  pub each : (n : ℕ) (row : ClassRow) → slice_get rows n ≡ Some row → IsRow edits (class n) row

-- what holds of the edits of every class table
pub record IsKept (edits : List Edit) : Type 0 where
  pub lawful : AreLawful edits
  pub beyond : (c : ClassId) (s : Selector) → class_count edits ≤ c.0 → own edits c s ≡ None
  pub few : length edits ≤ 4096
  pub few_classes : class_count edits ≤ 1024

-- the class of each name
abbrev pub IsNaming : List Edit → Naming → Type 0
IsNaming edits naming = (name : List ℕ) → named_in naming name ≡ class_named edits name

-- the rows of classes without methods, and their index by name
pub record ArePlain (cs : List ClassDef) (rows : List ClassRow) (naming : Naming) : Type 0 where
  pub shown : AllZip IsPlain rows cs
  pub named : (name : List ℕ) → named_in naming name ≡ option_map class (position (λ d. bytes_eq name d.name) cs)

-- an edit that leaves every class its name, and defines none
abbrev pub KeepsNames : Edit → Type 0
KeepsNames e = (cs : List ClassDef) → map (λ d. d.name) (classes_after cs e) ≡ map (λ d. d.name) cs

-- the table of a list of edits
pub record IsTable (edits : List Edit) (rows : List ClassRow) (depths : List ℕ) (naming : Naming) : Type 0 where
  pub kept : IsKept edits
  pub sound : AllSound edits
  pub shown : AreRows edits rows
  pub deep : AreDepths edits depths
  pub named : IsNaming edits naming

-- an edit that leaves the classes as they are, and makes this method, or none, a class's own for a selector
pub record IsAt (e : Edit) (place : ℕ) (d : ClassId) (t : Selector) (o : Option MethodId) : Type 0 where
  pub same_classes : (cs : List ClassDef) → classes_after cs e ≡ cs
  pub decides : (found : Option Found) (c : ClassId) (s : Selector) →
      decided e place found c s ≡ (if is_at d t c s then option_map User o else found)
