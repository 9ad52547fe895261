-- From the texts of a query to numbers.
use Rattle.std.specs.Prelude.{ℕ, List, length, if◌then◌else◌, Result, Ok, Err, unwrap_or, ok_or}
use Rattle.st_classes.specs.declared.values.ClassId.{ClassId}
use Rattle.st_classes.specs.declared.values.Selector.{Selector}
use Rattle.st_classes.specs.declared.edits.Edit.{Edit}
use Rattle.st_classes.specs.declared.refusals.Refusal.{Refusal}
use Rattle.st_classes.specs.declared.refusals.Refusal.TheVariants.{BadName, UnknownClass}
use Rattle.st_classes.specs.Classes.{class_named}
use Rattle.st_classes.specs.Kernel.{selector}
use Rattle.st_classes.specs.Selectors.{is_selector, place_of}

-- what comes next of a value; a refusal stays
abbrev pub and_then : {T U : Type 0} → (T → Result U Refusal) → Result T Refusal → Result U Refusal
and_then f (Ok v) = f v
and_then f (Err e) = Err e

-- the class that a text names
abbrev pub class_in : List Edit → List ℕ → Result ClassId Refusal
class_in edits text = ok_or (class_named edits text) UnknownClass

-- the selector that a text names; one that was never interned gets the next number, for which no class has a method
abbrev pub selector_in : List (List ℕ) → List ℕ → Result Selector Refusal
selector_in names text =
    if is_selector text then Ok (selector (unwrap_or (place_of names text) (length names))) else Err BadName
