-- An image as texts, and how its file is written.
use Rattle.std.specs.Prelude.{◌≡◌, ◌≤◌, ◌⊎◌, ℕ, false, List, [], ◌∷◌, ◌++◌, codes, true, Some, Result, Ok, Err, drop, length, map}
use mathlib.Core.List.{IsPrefix}
use Rattle.serde_json.specs.Data.{Data, depth}
use Rattle.serde_json.specs.Read.{read}
use Rattle.serde_json.specs.Written.{compact_text, has_float}
use Rattle.st_classes.specs.declared.refusals.Refusal.{Refusal}
use Rattle.st_classes.specs.declared.refusals.Refusal.TheVariants.{NoMemory, WriteFault}
use Rattle.st_wire.specs.Fields.{texts_at, whole_at}
use Rattle.st_wire.specs.Replies.{keys_rise}
use Rattle.st_wire.specs.Streams.{one_more}
use Rattle.st_image.specs.Loaded.{AreBaseActors, AreBaseSenders}
use Rattle.st_image.specs.Loading.{Reloads, edit_texts}
use Rattle.st_image.specs.declared.actor_part.ActorPart.{ActorPart}
use Rattle.st_image.specs.Parts.{actor_of}
use Rattle.st_file.specs.declared.texts.ImageText.{ImageText}
use Rattle.st_file.specs.Describes.{Describes}
use Rattle.st_file.specs.Files.{document_of}
use Rattle.st_file.specs.Meanings.{actors_meant}
use Rattle.st_file.specs.ImageSnapshots.{ImageSnapshotView}

-- ---- an image as texts

-- The texts hold the names after the kernel's, the edits, actors that mean those of the moment, the clients, and the counts. All of it
-- can be loaded.
pub record TellsSnapshot (m : ImageSnapshotView) (t : ImageText) : Type 0 where
  pub parts : List ActorPart
  pub names : t.names ≡ drop 22 m.names
  pub edits : t.edits ≡ edit_texts m.names m.base.edits
  pub actors : actors_meant m.names m.base.edits t.actors ≡ Some parts
  pub of_parts : m.base.actors ≡ map actor_of parts
  pub fit : AreBaseActors m.names m.base.edits parts
  pub in_order : AreBaseSenders m.base.edits parts m.base.clients
  pub reloads : Reloads m.names m.base.edits
  pub senders : t.senders ≡ m.base.clients
  pub counts : t.counts ≡ m.counts

-- ---- documents

-- a value is the document of an image at a moment, in the second format: it describes that image; it lists all names after the
-- kernel's, by their numbers; and its keys are in byte order at every level
pub record IsDocument (v : Data) (m : ImageSnapshotView) : Type 0 where
  pub format : whole_at (codes "format") 1 2 v ≡ Some 2
  pub describes : Describes v m.names m.base m.counts
  pub names : texts_at (codes "names") v ≡ Some (drop 22 m.names)
  pub ordered : keys_rise v ≡ true

-- ---- writing

-- the compact text of a value, and a newline
abbrev pub value_line : Data → List ℕ
value_line v = compact_text v ++ 10 ∷ []

-- a text is the line of a value, and is read as that value again
pub record IsLineOf (v : Data) (text : List ℕ) : Type 0 where
  pub line : text ≡ value_line v
  pub again : document_of text ≡ Some v

-- a text is that of an image's file: the line of the image's document
abbrev pub IsFileOf : ImageSnapshotView → List ℕ → Type 0
IsFileOf m text = (v : Data) × IsDocument v m × IsLineOf v text

-- such a text has so many bytes
abbrev pub HasFileOf : ImageSnapshotView → ℕ → Type 0
HasFileOf m n = (text : List ℕ) × IsFileOf m text × (n ≡ length text)

-- a value is what is written of an image at a moment: the image's document, whose text is read as it; it nests nine deep at most and has
-- no float
pub record IsWrittenAs (v : Data) (m : ImageSnapshotView) : Type 0 where
  pub document : IsDocument v m
  pub again : read (compact_text v) ≡ Some v
  pub shallow : depth v ≤ 9
  pub whole : has_float v ≡ false

-- such a text is written whole; or memory ran out, and nothing is written; or the device failed, perhaps after the last byte, and a
-- prefix of such a text is written
abbrev pub Writes : {T : Type 0} → (List ℕ → Type 0) → List ℕ → Result T Refusal → Type 0
Writes IsWhole written (Ok _) = IsWhole written
Writes IsWhole written (Err e) = ((written ≡ []) × (e ≡ NoMemory))
    ⊎ (((text : List ℕ) × IsWhole text × IsPrefix written text) × (e ≡ WriteFault))

-- the text of the image's file is written
abbrev pub Saves : {T : Type 0} → ImageSnapshotView → List ℕ → Result T Refusal → Type 0
Saves m written result = Writes (IsFileOf m) written result

-- a device's count of failures: one more if it failed
abbrev pub failures_after : {T : Type 0} → Result T Refusal → ℕ → ℕ
failures_after (Err WriteFault) failures = one_more failures
failures_after _ failures = failures
