-- What is told of an image from time to time, as lines, and that this tells what happened to it.
use Rattle.std.specs.Prelude.{◌≡◌, ℕ, List, [], ◌++◌, All, Some, map}
use Rattle.std.specs.Str.{IsUtf8}
use Rattle.st_classes.specs.declared.edits.Edit.{Edit}
use Rattle.st_classes.specs.EditLists.{AllSound, Begins}
use Rattle.st_classes.specs.Names.{AreNames}
use Rattle.st_image.specs.declared.history.Item.{Item}
use Rattle.st_image.specs.CompiledEdits.{AllCompiled}
use Rattle.st_image.specs.Images.{ImageView, world}
use Rattle.st_image.specs.WorldInvariant.{IsLawful}
use Rattle.st_image.specs.Worlds.{World}
use Rattle.st_journal.specs.declared.entries.Entry.{Entry}
use Rattle.st_journal.specs.declared.entries.Entry.TheVariants as entry
use Rattle.st_journal.specs.Crashes.{IsToldBy}
use Rattle.st_journal.specs.Entries.{told}
use Rattle.st_journal.specs.EntryForms.{EntryIsInRange, EntryIsText}
use Rattle.st_journal.specs.EntryLines.{entries_text, entry_text}
use Rattle.st_journal.specs.EntryTexts.{lines_of}
use Rattle.st_journal.specs.Marks.{Mark, did, after_all}
use Rattle.st_journal.specs.Recovery.{told_mark}

-- the entries that tell more names, and then items and checkpoints
abbrev pub telling : List (List ℕ) → List Mark → List Entry
telling more ms = map entry.Name more ++ map told_mark ms

-- the lines of entries, written by names and a class table
abbrev pub lines_told : List (List ℕ) → List Edit → List Entry → List (List ℕ)
lines_told names edits es = lines_of (entries_text names edits es)

-- the texts of an entry that was written are UTF-8, and so is its own
abbrev pub WasWritten : List (List ℕ) → List Edit → Entry → Type 0
WasWritten names edits e = EntryIsText e × IsUtf8 (entry_text names edits e)

-- Items and checkpoints led from a world to another one, with some more names. They are told then or later: the class table by which their
-- lines are written has all edits that there were, and perhaps others behind them.
pub record WentOn (i : ImageView) (names more : List (List ℕ)) (w : World) (ms : List Mark) (v : World)
    (edits : List Edit) : Type 0 where
  pub led : after_all (record { names = names ++ more; capacity = i.capacity }) w ms ≡ Some v
  pub are_names : AreNames (names ++ more)
  pub compiled : AllCompiled (names ++ more) v.edits
  pub later : Begins v.edits edits
  pub sound : AllSound edits
  pub in_range : All EntryIsInRange (telling more ms)
  pub written : All (WasWritten (names ++ more) edits) (telling more ms)

-- No lines tell an image to which nothing has happened yet. If lines tell what happened so far, then these and those of what went on tell
-- all of it. Items are told as `tell_since` tells them.
pub record TellingGoesOn : Type 0 where
  pub items : (h : List Item) → map told_mark (map did h) ≡ map told h
  pub nothing : (i : ImageView) → AllCompiled i.names (world i).edits → IsToldBy i [] i.names (world i)
  pub more : (i : ImageView) (lines names more : List (List ℕ)) (w : World) (ms : List Mark) (v : World) (edits : List Edit)
      → IsLawful i
      → IsToldBy i lines names w
      → WentOn i names more w ms v edits
      → IsToldBy i (lines ++ lines_told (names ++ more) edits (telling more ms)) (names ++ more) v
