-- The image with which a run of the program begins, and where it is saved.
use Rattle.std.specs.Prelude.{◌≡◌, Option, Some, None, Result, Ok, Err}
use Rattle.st_classes.specs.declared.refusals.Refusal.{Refusal}
use Rattle.st_classes.specs.declared.refusals.Refusal.TheVariants.{NoMemory}
use Rattle.st_image.specs.declared.settings.Settings.{Settings}
use Rattle.st_image.specs.Images.{ImageView, new_image}

-- a new image with the default settings and an empty history; or memory ran out
abbrev pub IsNew : Result ImageView Refusal → Type 0
IsNew (Ok i) = i ≡ new_image record { capacity = 64; history = 1000000 }
IsNew (Err e) = e ≡ NoMemory

-- a run begins with the image that was found, or else with a new one; it does not begin if the file is refused
abbrev pub BeginsWith : Result (Option ImageView) Refusal → Result ImageView Refusal → Type 0
BeginsWith (Ok (Some i)) first = first ≡ Ok i
BeginsWith (Ok None) first = IsNew first
BeginsWith (Err e) first = first ≡ Err e

-- where the image is saved after a run: at the given path, if any, and nowhere if the run was refused
abbrev pub saved_at : {P T E : Type 0} → Option P → Result T E → Option P
saved_at path (Ok _) = path
saved_at path (Err e) = None
