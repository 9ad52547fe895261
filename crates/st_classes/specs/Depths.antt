-- The depths of classes: how many classes are on their chains.
use Rattle.std.specs.Prelude.{◌≡◌, ℕ, ◌+◌, List, [], ◌∷◌, length, Option, Some, slice_get}
use Rattle.st_classes.specs.declared.values.ClassId.{ClassId}
use Rattle.st_classes.specs.declared.edits.Edit.{Edit}
use Rattle.st_classes.specs.Kernel.{class}
use Rattle.st_classes.specs.Classes.{ClassDef, class_count, chain, chain_of}

-- the kernel's classes: 1 for Object, and 2 for each class under it
abbrev pub kernel_depths : List ℕ
kernel_depths = 1 ∷ 2 ∷ 2 ∷ 2 ∷ 2 ∷ 2 ∷ 2 ∷ 2 ∷ []

-- for each class, the number of classes on its chain
pub record AreDepths (edits : List Edit) (depths : List ℕ) : Type 0 where
  pub long : length depths ≡ class_count edits
  pub each : (n depth : ℕ) → slice_get depths n ≡ Some depth → length (chain edits (class n)) ≡ depth

-- a chain of classes is complete: a larger bound gives no more classes
abbrev pub IsWhole : List ClassDef → Option ClassId → List ClassId → Type 0
IsWhole cs o xs = (more : ℕ) → chain_of cs (length xs + more) o ≡ xs

-- the depth of a class: the length of its complete chain
pub record IsDeep (cs : List ClassDef) (c : ClassId) (depth : ℕ) : Type 0 where
  pub above : List ClassId
  pub whole : IsWhole cs (Some c) above
  pub long : length above ≡ depth
