-- The classes that a list of edits defines.
use Rattle.std.specs.Prelude.{◌≡◌, ◌<◌, ℕ, List, [], ◌∷◌, ◌++◌, length, reverse, Bool, Option, Some, None, slice_get, zero, suc, nat_lt, option_map, option_and_then, position, codes}
use Rattle.std.specs.List.{flat_map}
use Rattle.std.specs.Str.{bytes_eq}
use Rattle.st_classes.specs.declared.values.ClassId.{ClassId}
use Rattle.st_classes.specs.declared.edits.Edit.{Edit}
use Rattle.st_classes.specs.declared.edits.Edit.TheVariants.{Define, Install, Remove, Reparent}
use Rattle.st_classes.specs.Kernel.{class}

-- a class: its name, its superclass, and the instance variables that it adds
pub record ClassDef : Type 0 where
  pub name : List ℕ
  pub parent : Option ClassId
  pub slots : List (List ℕ)

-- a kernel class under Object, which adds no instance variable
abbrev pub under_object : List ℕ → ClassDef
under_object name = record { name = name; parent = Some (class 0); slots = [] }

-- Object, which has no superclass, and the seven kernel classes under it
abbrev pub kernel_classes : List ClassDef
kernel_classes =
    record { name = codes "Object"; parent = None; slots = [] }
    ∷ under_object (codes "SmallInteger")
    ∷ under_object (codes "True")
    ∷ under_object (codes "False")
    ∷ under_object (codes "UndefinedObject")
    ∷ under_object (codes "Symbol")
    ∷ under_object (codes "ActorRef")
    ∷ under_object (codes "Class")
    ∷ []

-- a class with another superclass
abbrev pub under : ClassId → ClassDef → ClassDef
under parent d = record { name = d.name; parent = Some parent; slots = d.slots }

-- the classes after the one with a given number got another superclass
abbrev pub reparented : List ClassDef → ℕ → ClassId → List ClassDef
reparented [] n parent = []
reparented (d ∷ cs) zero parent = under parent d ∷ cs
reparented (d ∷ cs) (suc n) parent = d ∷ reparented cs n parent

-- the classes after an edit
abbrev pub classes_after : List ClassDef → Edit → List ClassDef
classes_after cs (Define name parent slots) = cs ++ record { name = name; parent = Some parent; slots = slots } ∷ []
classes_after cs (Install c m) = cs
classes_after cs (Remove c s) = cs
classes_after cs (Reparent c parent) = reparented cs c.0 parent

-- the classes after a list of edits
abbrev pub classes_from : List ClassDef → List Edit → List ClassDef
classes_from cs [] = cs
classes_from cs (e ∷ es) = classes_from (classes_after cs e) es

-- all classes by number: the kernel's and those that the edits define
abbrev pub classes : List Edit → List ClassDef
classes edits = classes_from kernel_classes edits

-- the number of classes, including the kernel's eight
abbrev pub class_count : List Edit → ℕ
class_count edits = length (classes edits)

-- whether a number is that of a class
abbrev pub is_class : List Edit → ClassId → Bool
is_class edits c = nat_lt c.0 (class_count edits)

-- the superclass of a class in a list of classes
abbrev pub parent_in : List ClassDef → ClassId → Option ClassId
parent_in cs c = option_and_then (λ d. d.parent) (slice_get cs c.0)

-- the superclass of a class: its definition or its last reparent names it
abbrev pub parent : List Edit → ClassId → Option ClassId
parent edits c = parent_in (classes edits) c

-- a class and its superclasses, upwards, at most n of them
abbrev pub chain_of : List ClassDef → ℕ → Option ClassId → List ClassId
chain_of cs zero o = []
chain_of cs (suc n) None = []
chain_of cs (suc n) (Some c) = c ∷ chain_of cs n (parent_in cs c)

-- a class, its superclass, and so on up to Object
abbrev pub chain : List Edit → ClassId → List ClassId
chain edits c = chain_of (classes edits) 64 (Some c)

-- each superclass is a class, and the chain of a class is the class followed by its superclass's chain: no chain is
-- cut off at 64 classes
pub record IsForest (cs : List ClassDef) : Type 0 where
  pub closed : (c p : ClassId) → parent_in cs c ≡ Some p → p.0 < length cs
  pub chains : (c p : ClassId) → parent_in cs c ≡ Some p → chain_of cs 64 (Some c) ≡ c ∷ chain_of cs 64 (Some p)

-- the instance variables that a class adds
abbrev pub own_slots : List ClassDef → ClassId → List (List ℕ)
own_slots cs c = slots_in (slice_get cs c.0)
  where
    slots_in : Option ClassDef → List (List ℕ)
    slots_in None = []
    slots_in (Some d) = d.slots

-- the instance variables of a class, inherited ones first
abbrev pub slots : List Edit → ClassId → List (List ℕ)
slots edits c = flat_map (own_slots (classes edits)) (reverse (chain edits c))

-- the instance variables that a class inherits: all of its superclass's
abbrev pub inherited : List Edit → ClassId → List (List ℕ)
inherited edits c = slots_of (parent edits c)
  where
    slots_of : Option ClassId → List (List ℕ)
    slots_of None = []
    slots_of (Some p) = slots edits p

-- the name of a class
abbrev pub class_name : List Edit → ClassId → Option (List ℕ)
class_name edits c = option_map (λ d. d.name) (slice_get (classes edits) c.0)

-- the class with a given name
abbrev pub class_named : List Edit → List ℕ → Option ClassId
class_named edits name = option_map class (position (λ d. bytes_eq name d.name) (classes edits))
