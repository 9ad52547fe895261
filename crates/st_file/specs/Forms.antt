-- The JSON values of the parts of an image are read as these parts.
use Rattle.std.specs.Prelude.{◌≡◌, ℕ, List, Option, Some}
use Rattle.serde_json.specs.Data.{Data}
use Rattle.st_classes.specs.declared.edits.Edit.{Edit}
use Rattle.st_classes.specs.EditLists.{AreLawful}
use Rattle.st_classes.specs.Names.{AreNames}
use Rattle.st_image.specs.declared.actor_part.ActorPart.{ActorPart}
use Rattle.st_image.specs.Loading.{edit_text}
use Rattle.st_file.specs.ActorJson.{actor_json}
use Rattle.st_file.specs.EditJson.{edit_json}
use Rattle.st_file.specs.Meanings.{actor_meant}
use Rattle.st_file.specs.Named.{ActorIsNamed}
use Rattle.st_file.specs.Ranges.{ActorIsInRange}
use Rattle.st_file.specs.Shapes.{actor_in, edit_in}

-- a form reads a text of the JSON value, and the text means the part
pub record ReadsAs {T P : Type 0} (form : Data → Option T) (meaning : T → Option P) (part : P) (d : Data)
    : Type 0 where
  pub text : T
  pub read : form d ≡ Some text
  pub meant : meaning text ≡ Some part

-- the JSON value of an actor is read as this actor, by the names and the class table by which it was made
abbrev pub ActorsAreRead : Type 0
ActorsAreRead = (names : List (List ℕ)) (edits : List Edit) (part : ActorPart)
    → AreNames names
    → AreLawful edits
    → ActorIsNamed names edits part
    → ActorIsInRange part
    → ReadsAs actor_in (actor_meant names edits) part (actor_json names edits part)

-- the JSON value of an edit is read as the edit's text
abbrev pub EditsAreRead : Type 0
EditsAreRead = (names : List (List ℕ)) (edits : List Edit) (e : Edit)
    → edit_in (edit_json names edits e) ≡ Some (edit_text names edits e)
