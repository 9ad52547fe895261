-- What the texts of entries mean, by names and a class table, and what reading an entry answers.
use Rattle.std.specs.Prelude.{◌≡◌, ◌⊎◌, ℕ, List, Option, Some, None, option_map, Result, Ok, Err}
use Rattle.serde_json.specs.Data.{Data}
use Rattle.st_classes.specs.declared.edits.Edit.{Edit}
use Rattle.st_classes.specs.declared.refusals.ImagePlace.TheVariants.{Actors, Shape}
use Rattle.st_classes.specs.declared.refusals.Refusal.{Refusal}
use Rattle.st_classes.specs.declared.refusals.Refusal.TheVariants.{BadImage, NoMemory}
use Rattle.st_classes.specs.declared.values.ClassId.{ClassId}
use Rattle.st_classes.specs.declared.values.Selector.{Selector}
use Rattle.st_classes.specs.Classes.{class_named}
use Rattle.st_image.specs.declared.edit_text.EditText.{EditText}
use Rattle.st_image.specs.declared.edit_text.EditText.TheVariants as edit
use Rattle.st_file.specs.Forms.{ReadsAs}
use Rattle.st_file.specs.Meanings.{message_meant, selector_of}
use Rattle.st_journal.specs.declared.entries.Entry.{Entry}
use Rattle.st_journal.specs.declared.entries.Entry.TheVariants as entry
use Rattle.st_journal.specs.declared.texts.EntryText.{EntryText}
use Rattle.st_journal.specs.declared.texts.EntryText.TheVariants as told
use Rattle.st_journal.specs.EntryShapes.{entry_in}

-- ---- meanings

abbrev pub define_with : List ℕ → List (List ℕ) → Option ClassId → Option Entry
define_with name slots (Some parent) = Some (entry.Define name parent slots)
define_with name slots None = None

abbrev pub install_with : List ℕ → Option ClassId → Option Entry
install_with source (Some class) = Some (entry.Install class source)
install_with source None = None

abbrev pub remove_with : Option ClassId → Option Selector → Option Entry
remove_with (Some class) (Some selector) = Some (entry.Remove class selector)
remove_with _ _ = None

abbrev pub reparent_with : Option ClassId → Option ClassId → Option Entry
reparent_with (Some class) (Some parent) = Some (entry.Reparent class parent)
reparent_with _ _ = None

-- classes and selectors are found by their texts
abbrev pub edit_meant : List (List ℕ) → List Edit → EditText → Option Entry
edit_meant names edits (edit.Define name parent slots) = define_with name slots (class_named edits parent)
edit_meant names edits (edit.Install class source) = install_with source (class_named edits class)
edit_meant names edits (edit.Remove class selector) = remove_with (class_named edits class) (selector_of names selector)
edit_meant names edits (edit.Reparent class parent) = reparent_with (class_named edits class) (class_named edits parent)

abbrev pub entry_meant : List (List ℕ) → List Edit → EntryText → Option Entry
entry_meant names edits (told.Name text) = Some (entry.Name text)
entry_meant names edits (told.Edited e) = edit_meant names edits e
entry_meant names edits (told.Created class) = option_map entry.Created (class_named edits class)
entry_meant names edits (told.Posted actor m) = option_map (entry.Posted actor) (message_meant names edits m)
entry_meant names edits (told.Closed actor) = Some (entry.Closed actor)
entry_meant names edits (told.Begun actor) = Some (entry.Begun actor)
entry_meant names edits (told.Ran actor steps) = Some (entry.Ran actor steps)
entry_meant names edits told.Checkpoint = Some entry.Checkpoint

-- ---- answers

-- a JSON value tells an entry, by names and a class table
abbrev pub TellsEntry : List (List ℕ) → List Edit → Data → Entry → Type 0
TellsEntry names edits d e = ReadsAs entry_in (entry_meant names edits) e d

-- a JSON value has the form of an entry, and a class or a selector in it is not there
pub record IsMeaningless (names : List (List ℕ)) (edits : List Edit) (d : Data) : Type 0 where
  pub text : EntryText
  pub read : entry_in d ≡ Some text
  pub none : entry_meant names edits text ≡ None

-- The entry that is told; `BadImage` with the place `Shape` where the value has no form of an entry, or with the place `Actors` where a
-- class or a selector in it is not there; or `NoMemory`, whatever is told.
abbrev pub ReadsEntry : List (List ℕ) → List Edit → Data → Result Entry Refusal → Type 0
ReadsEntry names edits d (Ok e) = TellsEntry names edits d e
ReadsEntry names edits d (Err refusal) =
    (refusal ≡ NoMemory) ⊎ ((refusal ≡ BadImage Shape) × (entry_in d ≡ None)) ⊎ ((refusal ≡ BadImage Actors) × IsMeaningless names edits d)
