-- Laws of lookup: the last edit decides, a walk finds the first method on the chain, and a user's method is still installed.
use Rattle.std.specs.Prelude.{◌≡◌, ◌↔◌, List, [], ◌∷◌, ◌++◌, length, All, Bool, false, Option, Some, None, option_map}
use Rattle.st_classes.specs.declared.values.ClassId.{ClassId}
use Rattle.st_classes.specs.declared.values.Selector.{Selector}
use Rattle.st_classes.specs.declared.values.MethodId.{MethodId}
use Rattle.st_classes.specs.declared.methods.MethodParts.{MethodParts}
use Rattle.st_classes.specs.declared.edits.Edit.{Edit}
use Rattle.st_classes.specs.declared.edits.Edit.TheVariants.{Define, Install, Remove, Reparent}
use Rattle.st_classes.specs.declared.kernel.Kernel.{Kernel}
use Rattle.st_classes.specs.declared.kernel.Found.{Found}
use Rattle.st_classes.specs.declared.kernel.Found.TheVariants.{User, Kernel as FoundKernel}
use Rattle.st_classes.specs.declared.kernel.Target.{Target}
use Rattle.st_classes.specs.declared.kernel.Target.TheVariants.{Run, Primitive, Missing}
use Rattle.st_classes.specs.Kernel.{kernel_method, does_not_understand}
use Rattle.st_classes.specs.Classes.{chain, parent}
use Rattle.st_classes.specs.Walks.{is_at, method_id, own, walk, target, super_target}

-- an edit installs or removes in a class for a selector
abbrev pub decides : Edit → ClassId → Selector → Bool
decides (Define name parent slots) c s = false
decides (Install d m) c s = is_at d m.selector c s
decides (Remove d t) c s = is_at d t c s
decides (Reparent d p) c s = false

-- Without edits a class's own method is the kernel's. If the last edit installs a method there, it is that method. If
-- the last edit removes there, there is none. Any other edit leaves it as it was.
pub record LastDecides : Type 0 where
  pub kernel : (c : ClassId) (s : Selector) → own [] c s ≡ option_map FoundKernel (kernel_method c s)
  pub install : (es : List Edit) (c : ClassId) (m : MethodParts) →
      own (es ++ Install c m ∷ []) c m.selector ≡ Some (User (method_id (length es)))
  pub removal : (es : List Edit) (c : ClassId) (s : Selector) → own (es ++ Remove c s ∷ []) c s ≡ None
  pub other : (es : List Edit) (e : Edit) (c : ClassId) (s : Selector) →
      decides e c s ≡ false → own (es ++ e ∷ []) c s ≡ own es c s

-- a class has no method of its own for a selector
abbrev pub HasNone : List Edit → Selector → ClassId → Type 0
HasNone edits s c = own edits c s ≡ None

-- the first of these classes that has a method of its own for the selector has this one
pub record IsFirst (edits : List Edit) (cs : List ClassId) (s : Selector) (found : Found) : Type 0 where
  pub before : List ClassId
  pub holder : ClassId
  pub after : List ClassId
  pub along : cs ≡ before ++ holder ∷ after
  pub its_own : own edits holder s ≡ Some found
  pub none_before : All (HasNone edits s) before

-- The walk from a class finds a method exactly if it is that of the first class on the chain that has its own. It
-- finds none exactly if no class on the chain has one.
pub record WalkFinds : Type 0 where
  pub first : (edits : List Edit) (c : ClassId) (s : Selector) (found : Found) →
      (walk edits c s ≡ Some found) ↔ IsFirst edits (chain edits c) s found
  pub none : (edits : List Edit) (c : ClassId) (s : Selector) →
      (walk edits c s ≡ None) ↔ All (HasNone edits s) (chain edits c)

-- a method stands in the table for a class and a selector: the edit at its place installed it there, and no later
-- edit installs or removes there
pub record Stands (edits : List Edit) (c : ClassId) (s : Selector) (m : MethodId) : Type 0 where
  pub method : MethodParts
  pub before : List Edit
  pub after : List Edit
  pub installed : edits ≡ before ++ Install c method ∷ after
  pub place : length before ≡ m.0
  pub named : method.selector ≡ s
  pub lasts : All (λ e. decides e c s ≡ false) after

-- the first of these classes that has a method of its own has this one of the user's, which stands in the table for
-- that class
abbrev pub FirstStands : List Edit → List ClassId → Selector → MethodId → Type 0
FirstStands edits cs s m = (w : IsFirst edits cs s (User m)) × Stands edits w.holder s m

-- the chain of a class, or no classes
abbrev pub chain_from : List Edit → Option ClassId → List ClassId
chain_from edits None = []
chain_from edits (Some c) = chain edits c

-- The target of a message to an instance of class c, if the methods of classes cs are tried in order. It is a method
-- of the user's exactly if the first class that has a method has that one, which then stands in the table. It is a
-- kernel method exactly if the first class that has a method has that one. It is the user's method for
-- `doesNotUnderstand:` exactly if no class of cs has a method and the first on c's own chain has that one. It is
-- nothing exactly if neither is found.
pub record IsTarget (edits : List Edit) (c : ClassId) (cs : List ClassId) (s : Selector) (t : Target) : Type 0 where
  pub run : (m : MethodId) → (t ≡ Run m) ↔ FirstStands edits cs s m
  pub primitive : (k : Kernel) → (t ≡ Primitive k) ↔ IsFirst edits cs s (FoundKernel k)
  pub missing : (m : MethodId) →
      (t ≡ Missing (Some m)) ↔ (All (HasNone edits s) cs × FirstStands edits (chain edits c) does_not_understand m)
  pub nothing :
      (t ≡ Missing None)
      ↔ (All (HasNone edits s) cs × ((m : MethodId) → FirstStands edits (chain edits c) does_not_understand m → ⊥))

-- A class's own method of the user's is the method that stands in the table for it. A send tries the chain of the
-- receiver's class. A super send tries the chain of the superclass of its method's holder.
pub record TargetStands : Type 0 where
  pub stands : (edits : List Edit) (c : ClassId) (s : Selector) (m : MethodId) →
      (own edits c s ≡ Some (User m)) ↔ Stands edits c s m
  pub send : (edits : List Edit) (c : ClassId) (s : Selector) → IsTarget edits c (chain edits c) s (target edits c s)
  pub super_send : (edits : List Edit) (holder c : ClassId) (s : Selector) →
      IsTarget edits c (chain_from edits (parent edits holder)) s (super_target edits holder c s)
