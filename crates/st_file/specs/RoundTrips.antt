-- A saved image loads again.
use Rattle.std.specs.Prelude.{◌≡◌, ◌⊎◌, ℕ, List, Some, Result, Ok, Err}
use Rattle.serde_json.specs.Data.{Data}
use Rattle.st_classes.specs.declared.refusals.Refusal.{Refusal}
use Rattle.st_classes.specs.declared.refusals.Refusal.TheVariants.{NoMemory}
use Rattle.st_image.specs.Images.{ImageView}
use Rattle.st_image.specs.Loaded.{image_at}
use Rattle.st_wire.specs.Streams.{InputView}
use Rattle.st_file.specs.Describes.{LoadsImage}
use Rattle.st_file.specs.Files.{LoadsFile, LoadsText}
use Rattle.st_file.specs.Inputs.{StopsShort}
use Rattle.st_file.specs.ImageSnapshots.{ImageSnapshotView}
use Rattle.st_file.specs.Saving.{IsDocument, Saves}

-- memory ran out, or the result is the image at that moment: it has its names and its counts, begins with its world, and nothing has
-- happened in it yet
abbrev pub IsAgain : ImageSnapshotView → Result ImageView Refusal → Type 0
IsAgain m (Ok j) = j ≡ image_at m.names m.base m.counts
IsAgain m (Err e) = e ≡ NoMemory

-- the document of an image at a moment loads as that image
abbrev pub DocumentsLoad : Type 0
DocumentsLoad = (m : ImageSnapshotView) (v : Data) (result : Result ImageView Refusal) → IsDocument v m → LoadsImage v result → IsAgain m result

-- so does the text that was saved
abbrev pub TextsLoad : Type 0
TextsLoad = (m : ImageSnapshotView) (text : List ℕ) (result : Result ImageView Refusal) → Saves m text (Ok (tt {0})) → LoadsText text result
    → IsAgain m result

-- so does an input that has that text left, unless it is not read to its end
abbrev pub FilesLoad : Type 0
FilesLoad = (m : ImageSnapshotView) (text : List ℕ) (before after : InputView) (result : Result ImageView Refusal)
    → Saves m text (Ok (tt {0}))
    → before.remaining ≡ Some text
    → LoadsFile before after result
    → IsAgain m result ⊎ ((e : Refusal) × (result ≡ Err e) × StopsShort before after e)
