-- When an edit is accepted.
use Rattle.std.specs.Prelude.{ℕ, ◌&&◌, ◌||◌, List, [], ◌∷◌, ◌++◌, length, Bool, Some, false, not, is_some, nat_le, nat_lt, ◌==◌}
use Rattle.std.specs.List.{list_any, list_all, range_with_len}
use Rattle.std.specs.Cmp.Lexicographic.{pointwise}
use Rattle.std.specs.Str.{bytes_eq}
use Rattle.st_classes.specs.declared.values.ClassId.{ClassId}
use Rattle.st_classes.specs.declared.values.Selector.{Selector}
use Rattle.st_classes.specs.declared.edits.Edit.{Edit}
use Rattle.st_classes.specs.declared.edits.Edit.TheVariants.{Define, Install, Remove, Reparent}
use Rattle.st_classes.specs.declared.refusals.Refusal.TheVariants.{UnknownClass, ClassExists, KernelClass, KernelMethod, BadName, SlotClash, TooDeep, NoSuchMethod, TooMany, Cycle, SlotsDiffer}
use Rattle.st_classes.specs.declared.refusals.Limited.TheVariants.{Classes, Slots, Edits}
use Rattle.st_classes.specs.Refusals.{Rule}
use Rattle.st_classes.specs.Kernel.{class, kernel_method}
use Rattle.st_classes.specs.Selectors.{is_class_name, is_slot_name}
use Rattle.st_classes.specs.Classes.{ClassDef, reparented, classes, is_class, class_named, class_count, chain_of, chain, slots, inherited}
use Rattle.st_classes.specs.Walks.{own, user_method}

-- one of classes 0 to 7
abbrev pub is_kernel_class : ClassId → Bool
is_kernel_class c = nat_lt c.0 8

-- one of classes 1 to 7
abbrev pub is_value_class : ClassId → Bool
is_value_class c = nat_le 1 c.0 && nat_lt c.0 8

-- some text occurs twice in the list
abbrev pub has_twice : List (List ℕ) → Bool
has_twice [] = false
has_twice (text ∷ texts) = list_any (bytes_eq text) texts || has_twice texts

-- a class name, and names of instance variables
abbrev pub are_names : List ℕ → List (List ℕ) → Bool
are_names name slots = is_class_name name && list_all is_slot_name slots

-- a class table has at most 4,096 edits
abbrev pub too_many_edits : List Edit → Rule
too_many_edits edits = (nat_le 4096 (length edits), TooMany Edits)

-- the refusals of a definition, in their order
abbrev pub define_rules : List Edit → List ℕ → ClassId → List (List ℕ) → List Rule
define_rules edits name parent added =
    (not (is_class edits parent), UnknownClass)
    ∷ (not (are_names name added), BadName)
    ∷ (is_value_class parent, KernelClass)
    ∷ (is_some (class_named edits name), ClassExists)
    ∷ (has_twice (slots edits parent ++ added), SlotClash)
    ∷ (nat_le 64 (length (chain edits parent)), TooDeep)
    ∷ (nat_le 1024 (class_count edits), TooMany Classes)
    ∷ (nat_lt 64 (length (slots edits parent ++ added)), TooMany Slots)
    ∷ too_many_edits edits
    ∷ []

-- the refusals of an install, in their order
abbrev pub install_rules : List Edit → ClassId → Selector → List Rule
install_rules edits c s =
    (not (is_class edits c), UnknownClass)
    ∷ (is_some (kernel_method c s), KernelMethod)
    ∷ too_many_edits edits
    ∷ []

-- the refusals of a removal, in their order: a class can lose only its own methods that are the user's
abbrev pub remove_rules : List Edit → ClassId → Selector → List Rule
remove_rules edits c s =
    (not (is_class edits c), UnknownClass)
    ∷ (is_some (kernel_method c s), KernelMethod)
    ∷ (not (is_some (user_method (own edits c s))), NoSuchMethod)
    ∷ too_many_edits edits
    ∷ []

-- a class is in the list
abbrev pub is_among : List ClassId → ClassId → Bool
is_among cs c = list_any (λ (d : ClassId). d.0 == c.0) cs

-- a class has more than 64 classes on its chain
abbrev pub is_too_deep : List ClassDef → ClassId → Bool
is_too_deep cs c = nat_lt 64 (length (chain_of cs 65 (Some c)))

-- some class has more than 64 classes on its chain
abbrev pub has_too_deep : List ClassDef → Bool
has_too_deep cs = list_any (λ (n : ℕ). is_too_deep cs (class n)) (range_with_len 0 (length cs))

-- the refusals of a reparent, in their order: the new superclass has the old one's instance variables, the class is not
-- on its chain, and afterwards no chain has more than 64 classes
abbrev pub reparent_rules : List Edit → ClassId → ClassId → List Rule
reparent_rules edits c parent =
    (not (is_class edits c), UnknownClass)
    ∷ (not (is_class edits parent), UnknownClass)
    ∷ (is_kernel_class c || is_value_class parent, KernelClass)
    ∷ (is_among (chain edits parent) c, Cycle)
    ∷ (not (pointwise bytes_eq (slots edits parent) (inherited edits c)), SlotsDiffer)
    ∷ (has_too_deep (reparented (classes edits) c.0 parent), TooDeep)
    ∷ too_many_edits edits
    ∷ []

-- the refusals of an edit, in their order
abbrev pub edit_rules : List Edit → Edit → List Rule
edit_rules edits (Define name parent added) = define_rules edits name parent added
edit_rules edits (Install c m) = install_rules edits c m.selector
edit_rules edits (Remove c s) = remove_rules edits c s
edit_rules edits (Reparent c parent) = reparent_rules edits c parent
