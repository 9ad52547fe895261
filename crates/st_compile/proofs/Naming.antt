-- What holds of all that names can stand for.
use Rattle.std.proofs.Common.{ℕ, Bool, true, false, List, slice_get}
use Rattle.std.specs.Option.{option_map}
use Rattle.st_classes.specs.declared.values.Value.TheVariants.{Nil, Bool as Boolean, Class}
use Rattle.st_classes.specs.declared.instructions.Instruction.{Instruction}
use Rattle.st_classes.specs.declared.instructions.Instruction.TheVariants.{PushLit, PushSelf, PushActor, PushTemp, PushSlot, StoreTemp, StoreSlot}
use Rattle.st_classes.specs.Classes.{class_named}
use Rattle.st_classes.specs.Selectors.{place_of, reserved_names}
use Rattle.st_compile.specs.NameResolution.{Scope, pushed, reserved, reserved_values, stored}
use Rattle.st_compile.proofs.There.{IfThere, got_there, map_there, or_there, then_there}

-- what holds of each of their values holds of a reserved name's
pub reserved_there : (P : Instruction → Type 0) → P PushSelf → P (PushLit Nil) → ((b : Bool) → P (PushLit (Boolean b))) → P PushActor → (text : List ℕ) → IfThere P (reserved text)
reserved_there P own nil truth actor text = then_there P (slice_get reserved_values) (place_of reserved_names text) (got_there P reserved_values (own, (own, (nil, (truth true, (truth false, (actor, tt)))))))

-- what holds of each value that a name can have holds of a name's
pub pushed_there : (P : Instruction → Type 0) (scope : Scope) (text : List ℕ) → IfThere P (reserved text) → IfThere (λ s. P (PushTemp s)) (place_of scope.locals text) → IfThere (λ s. P (PushSlot s)) (place_of scope.slots text) → IfThere (λ c. P (PushLit (Class c))) (class_named scope.edits text) → IfThere P (pushed scope text)
pushed_there P scope text own locals slots classes =
    or_there P (reserved text) _ own (
    or_there P (option_map PushTemp (place_of scope.locals text)) _ (map_there P PushTemp (place_of scope.locals text) locals) (
    or_there P (option_map PushSlot (place_of scope.slots text)) _ (map_there P PushSlot (place_of scope.slots text) slots) (
    map_there P (λ c. PushLit (Class c)) (class_named scope.edits text) classes)))

pub stored_there : (P : Instruction → Type 0) (scope : Scope) (text : List ℕ) → IfThere (λ s. P (StoreTemp s)) (place_of scope.locals text) → IfThere (λ s. P (StoreSlot s)) (place_of scope.slots text) → IfThere P (stored scope text)
stored_there P scope text locals slots =
    or_there P (option_map StoreTemp (place_of scope.locals text)) _ (map_there P StoreTemp (place_of scope.locals text) locals) (
    map_there P StoreSlot (place_of scope.slots text) slots)
