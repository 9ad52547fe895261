-- The result of reading a part of a command.
use Rattle.std.specs.Prelude.{◌≡◌, ◌⊎◌, Option, Some, None, Result, Ok, Err}
use Rattle.st_classes.specs.declared.refusals.Refusal.{Refusal}
use Rattle.st_classes.specs.declared.refusals.Refusal.TheVariants.{BadCommand, NoMemory}

-- the part, if there is one; BadCommand if there is none; or NoMemory in place of any answer
abbrev pub Reads : {T : Type 0} → Option T → Result T Refusal → Type 0
Reads there (Ok part) = there ≡ Some part
Reads there (Err refusal) = (refusal ≡ NoMemory) ⊎ ((refusal ≡ BadCommand) × (there ≡ None))
