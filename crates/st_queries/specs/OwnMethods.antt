-- The methods that classes have of their own.
use Rattle.std.specs.Prelude.{ℕ, ◌+◌, ◌==◌, List, length, Bool, false, Option, Some, None, is_some, option_and_then, slice_get, count_by, if◌then◌else◌}
use Rattle.std.specs.List.{range_with_len}
use Rattle.st_classes.specs.declared.values.ClassId.{ClassId}
use Rattle.st_classes.specs.declared.values.MethodId.{MethodId}
use Rattle.st_classes.specs.declared.edits.Edit.{Edit}
use Rattle.st_classes.specs.declared.edits.Edit.TheVariants.{Install}
use Rattle.st_classes.specs.declared.kernel.Found.{Found}
use Rattle.st_classes.specs.declared.kernel.Found.TheVariants.{User, Kernel as FoundKernel}
use Rattle.st_classes.specs.Kernel.{kernel_method, kernel_selectors, selector}
use Rattle.st_classes.specs.Selectors.{place_of}
use Rattle.st_classes.specs.Walks.{own}

-- what holds of a method that was found, if it is the user's
abbrev pub IfUser : Option Found → (MethodId → Type 0) → Type 0
IfUser (Some (User m)) P = P m
IfUser _ P = Unit {0}

-- the version of what was found: how many edits there were when it had been installed; 0 if nothing was installed
abbrev pub installed_version : Option Found → ℕ
installed_version (Some (User m)) = m.0 + 1
installed_version _ = 0

-- the version of a class's own method for the selector with a text
abbrev pub own_version : List (List ℕ) → List Edit → ClassId → List ℕ → ℕ
own_version names edits c text = installed_version (option_and_then (λ n. own edits c (selector n)) (place_of names text))

-- what was found is the method that was installed at a place
abbrev pub is_from : ℕ → Option Found → Bool
is_from place (Some (User m)) = m.0 == place
is_from place (Some (FoundKernel k)) = false
is_from place None = false

abbrev pub standing_by : List Edit → ℕ → Option Edit → Option ClassId
standing_by edits place (Some (Install c m)) = if is_from place (own edits c m.selector) then Some c else None
standing_by edits place _ = None

-- the class of the install at a place, if it still stands: its class's own method for its selector is that one
abbrev pub standing : List Edit → ℕ → Option ClassId
standing edits place = standing_by edits place (slice_get edits place)

-- there is a class, and it is this one
abbrev pub is_class_of : ClassId → Option ClassId → Bool
is_class_of c None = false
is_class_of c (Some d) = c.0 == d.0

-- how many installs stand in a class
abbrev pub installs_in : List Edit → ClassId → ℕ
installs_in edits c = count_by (λ place. is_class_of c (standing edits place)) (range_with_len 0 (length edits))

-- how many methods the kernel gives a class
abbrev pub kernel_methods_in : ClassId → ℕ
kernel_methods_in c = count_by (λ n. is_some (kernel_method c (selector n))) (range_with_len 0 (length kernel_selectors))

-- how many methods a class has of its own: the installs in it that stand, and the kernel's
abbrev pub method_count : List Edit → ClassId → ℕ
method_count edits c = installs_in edits c + kernel_methods_in c
