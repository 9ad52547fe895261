-- Image files: the JSON value of a text, and what a load answers.
use Rattle.std.specs.Prelude.{◌≡◌, ◌⊎◌, ℕ, ◌==◌, List, [], ◌∷◌, if◌then◌else◌, Option, Some, None, Result, Err}
use Rattle.serde_json.specs.Data.{Data}
use Rattle.st_classes.specs.declared.refusals.Refusal.{Refusal}
use Rattle.st_classes.specs.declared.refusals.Refusal.TheVariants.{BadImage, NoMemory}
use Rattle.st_classes.specs.declared.refusals.ImagePlace.TheVariants as place
use Rattle.st_image.specs.Images.{ImageView}
use Rattle.st_wire.specs.Commands.{value_of}
use Rattle.st_wire.specs.Streams.{InputView}
use Rattle.st_file.specs.Describes.{LoadsImage}
use Rattle.st_file.specs.Inputs.{GivesAll, StopsShort}

-- a text without the newline at its end, if it has one
abbrev pub without_newline : List ℕ → List ℕ
without_newline [] = []
without_newline (b ∷ []) = if b == 10 then [] else b ∷ []
without_newline (b ∷ c ∷ bs) = b ∷ without_newline (c ∷ bs)

-- the JSON value of a file's text
abbrev pub document_of : List ℕ → Option Data
document_of text = value_of (without_newline text)

-- the bytes are JSON, and their value is loaded; or they are not JSON; or memory ran out
abbrev pub LoadsBytes : List ℕ → Result ImageView Refusal → Type 0
LoadsBytes bytes result = ((v : Data) × (value_of bytes ≡ Some v) × LoadsImage v result)
    ⊎ ((value_of bytes ≡ None) × (result ≡ Err (BadImage place.Json)))
    ⊎ (result ≡ Err NoMemory)

-- a text is loaded, without the newline at its end
abbrev pub LoadsText : List ℕ → Result ImageView Refusal → Type 0
LoadsText text result = LoadsBytes (without_newline text) result

-- the input was read to its end, and its text is loaded; or it was not, and the refusal says why
abbrev pub LoadsFile : InputView → InputView → Result ImageView Refusal → Type 0
LoadsFile before after result = ((text : List ℕ) × GivesAll before after text × LoadsText text result)
    ⊎ ((e : Refusal) × (result ≡ Err e) × StopsShort before after e)
