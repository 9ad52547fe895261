-- What is found at the place of an image's file.
use Rattle.std.specs.Prelude.{Option, Some, Result, Ok, Err}
use Rattle.st_classes.specs.declared.refusals.Refusal.{Refusal}
use Rattle.st_image.specs.Images.{ImageView}

-- what is found in a file: the image that was loaded, or the refusal of the file
abbrev pub found_as : Result ImageView Refusal → Result (Option ImageView) Refusal
found_as (Ok i) = Ok (Some i)
found_as (Err e) = Err e
