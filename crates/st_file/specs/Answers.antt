-- What reading a part of a file answers.
use Rattle.std.specs.Prelude.{◌≡◌, ◌⊎◌, Option, Some, None, Result, Ok, Err}
use Rattle.st_classes.specs.declared.refusals.Refusal.{Refusal}
use Rattle.st_classes.specs.declared.refusals.Refusal.TheVariants.{BadImage, NoMemory}
use Rattle.st_classes.specs.declared.refusals.ImagePlace.{ImagePlace}

-- the part that is there; or `BadImage` with this place, if nothing is there; or `NoMemory`, whatever is there
abbrev pub Finds : {T : Type 0} → ImagePlace → Option T → Result T Refusal → Type 0
Finds p there (Ok part) = there ≡ Some part
Finds p there (Err refusal) = (refusal ≡ NoMemory) ⊎ ((refusal ≡ BadImage p) × (there ≡ None))
