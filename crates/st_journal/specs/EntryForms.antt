-- Entries that can be told, and that what tells them is read as them.
use Rattle.std.specs.Prelude.{◌≡◌, ◌++◌, ◌≤◌, ◌<◌, ◌^◌, ℕ, List, true, All, map}
use Rattle.st_classes.specs.declared.edits.Edit.{Edit}
use Rattle.st_classes.specs.Classes.{is_class}
use Rattle.st_classes.specs.EditLists.{AreLawful}
use Rattle.st_classes.specs.Names.{AreNames}
use Rattle.st_image.specs.CompiledEdits.{AllCompiled}
use Rattle.st_image.specs.Images.{ImageView, world}
use Rattle.st_image.specs.WorldInvariant.{IsLawful}
use Rattle.st_file.specs.Named.{IsNamed, MessageIsNamed}
use Rattle.st_file.specs.Ranges.{MessageIsInRange}
use Rattle.st_file.specs.Tellable.{IsText}
use Rattle.st_journal.specs.declared.entries.Entry.{Entry}
use Rattle.st_journal.specs.declared.entries.Entry.TheVariants as entry
use Rattle.st_journal.specs.Entries.{told}
use Rattle.st_journal.specs.EntryJson.{entry_json}
use Rattle.st_journal.specs.EntryMeanings.{TellsEntry}

-- ---- entries that can be told

-- the classes and selectors of an entry are there, so that each has a text
abbrev pub EntryIsNamed : List (List ℕ) → List Edit → Entry → Type 0
EntryIsNamed names edits (entry.Define name parent slots) = is_class edits parent ≡ true
EntryIsNamed names edits (entry.Install class source) = is_class edits class ≡ true
EntryIsNamed names edits (entry.Remove class selector) = (is_class edits class ≡ true) × IsNamed names selector
EntryIsNamed names edits (entry.Reparent class parent) = (is_class edits class ≡ true) × (is_class edits parent ≡ true)
EntryIsNamed names edits (entry.Created class) = is_class edits class ≡ true
EntryIsNamed names edits (entry.Posted actor message) = MessageIsNamed names edits message
EntryIsNamed names edits _ = Unit {0}

-- the texts of an entry are UTF-8
abbrev pub EntryIsText : Entry → Type 0
EntryIsText (entry.Name text) = IsText text
EntryIsText (entry.Define name parent slots) = IsText name × All IsText slots
EntryIsText (entry.Install class source) = IsText source
EntryIsText _ = Unit {0}

-- the numbers of an entry are within the bounds of their types, and it has at least one step if it tells steps
abbrev pub EntryIsInRange : Entry → Type 0
EntryIsInRange (entry.Posted actor message) = (actor.0 < 2 ^ 32) × MessageIsInRange message
EntryIsInRange (entry.Closed actor) = actor.0 < 2 ^ 32
EntryIsInRange (entry.Begun actor) = actor.0 < 2 ^ 32
EntryIsInRange (entry.Ran actor steps) = (actor.0 < 2 ^ 32) × (1 ≤ steps) × (steps < 2 ^ 32)
EntryIsInRange _ = Unit {0}

-- an entry can be told with these names and this class table
pub record CanBeTold (names : List (List ℕ)) (edits : List Edit) (e : Entry) : Type 0 where
  pub named : EntryIsNamed names edits e
  pub text : EntryIsText e
  pub in_range : EntryIsInRange e

-- ---- laws

-- the JSON value of an entry tells this entry, by the names and the class table by which it was made
abbrev pub EntriesAreRead : Type 0
EntriesAreRead = (names : List (List ℕ)) (edits : List Edit) (e : Entry)
    → AreNames names
    → AreLawful edits
    → CanBeTold names edits e
    → TellsEntry names edits (entry_json names edits e) e

-- the texts of the entries that tell an image's names and its history are UTF-8
pub record HasTexts (i : ImageView) : Type 0 where
  pub names : All EntryIsText (map entry.Name i.names)
  pub history : All EntryIsText (map told i.history)

abbrev pub ToldIsText : Type 0
ToldIsText = (i : ImageView) → AreNames i.names → IsLawful i → AllCompiled i.names (world i).edits → HasTexts i

-- An entry whose classes and selectors are there has the same JSON value by more names and a longer class table. So it may be told later.
abbrev pub ToldLater : Type 0
ToldLater = (names more : List (List ℕ)) (edits later : List Edit) (e : Entry)
    → AreLawful edits
    → EntryIsNamed names edits e
    → entry_json (names ++ more) (edits ++ later) e ≡ entry_json names edits e
