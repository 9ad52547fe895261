-- Lists of accepted edits, and that their methods suit and are sound.
use Rattle.std.specs.Prelude.{◌≡◌, ◌++◌, ℕ, List, true, Option, Some, None, slice_get, take, option_and_then}
use Rattle.st_classes.specs.declared.values.ClassId.{ClassId}
use Rattle.st_classes.specs.declared.values.MethodId.{MethodId}
use Rattle.st_classes.specs.declared.methods.MethodParts.{MethodParts}
use Rattle.st_classes.specs.declared.edits.Edit.{Edit}
use Rattle.st_classes.specs.declared.edits.Edit.TheVariants.{Define, Install, Remove, Reparent}
use Rattle.st_classes.specs.Refusals.{first_of}
use Rattle.st_classes.specs.EditRules.{edit_rules}
use Rattle.st_classes.specs.Methods.{IsSound}
use Rattle.st_classes.specs.MethodSuits.{suits}

-- the first list is a prefix of the second
abbrev pub Begins : List Edit → List Edit → Type 0
Begins edits later = (rest : List Edit) × (later ≡ edits ++ rest)

-- each edit was accepted after those before it
abbrev pub AreLawful : List Edit → Type 0
AreLawful edits = (place : ℕ) (e : Edit) →
    slice_get edits place ≡ Some e → first_of (edit_rules (take place edits) e) ≡ None

-- each installed method suits its class, for given names
abbrev pub AllSuit : List (List ℕ) → List Edit → Type 0
AllSuit names edits = (place : ℕ) (c : ClassId) (m : MethodParts) →
    slice_get edits place ≡ Some (Install c m) → suits names edits c m ≡ true

-- the method of an install is sound
abbrev pub IsSoundEdit : Edit → Type 0
IsSoundEdit (Define name parent slots) = Unit {0}
IsSoundEdit (Install c m) = IsSound m
IsSoundEdit (Remove c s) = Unit {0}
IsSoundEdit (Reparent c p) = Unit {0}

-- each installed method is sound
abbrev pub AllSound : List Edit → Type 0
AllSound edits = (place : ℕ) (c : ClassId) (m : MethodParts) →
    slice_get edits place ≡ Some (Install c m) → IsSound m

-- the method of an install; other edits have none
abbrev pub installed_method : Edit → Option MethodParts
installed_method (Define name parent slots) = None
installed_method (Install c m) = Some m
installed_method (Remove c s) = None
installed_method (Reparent c p) = None

-- the method that the edit at a place installed
abbrev pub method_at : List Edit → MethodId → Option MethodParts
method_at edits m = option_and_then installed_method (slice_get edits m.0)
