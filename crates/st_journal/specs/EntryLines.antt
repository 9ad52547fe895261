-- The lines of entries.
use Rattle.std.specs.Prelude.{◌≡◌, ℕ, List, [], ◌∷◌, ◌++◌, Some}
use Rattle.serde_json.specs.Data.{Data}
use Rattle.serde_json.specs.Written.{compact_text}
use Rattle.st_classes.specs.declared.edits.Edit.{Edit}
use Rattle.st_wire.specs.Commands.{value_of}
use Rattle.st_journal.specs.declared.entries.Entry.{Entry}
use Rattle.st_journal.specs.EntryJson.{entry_json}
use Rattle.st_journal.specs.EntryMeanings.{TellsEntry}

-- the compact text of an entry's JSON value
abbrev pub entry_text : List (List ℕ) → List Edit → Entry → List ℕ
entry_text names edits e = compact_text (entry_json names edits e)

-- the line that tells an entry: that text, and a newline
abbrev pub entry_line : List (List ℕ) → List Edit → Entry → List ℕ
entry_line names edits e = entry_text names edits e ++ 10 ∷ []

-- the lines of entries, one after the other
abbrev pub entries_text : List (List ℕ) → List Edit → List Entry → List ℕ
entries_text names edits [] = []
entries_text names edits (e ∷ es) = entry_line names edits e ++ entries_text names edits es

-- a text, without a newline, is that of a JSON value that tells an entry by names and a class table
pub record SaysEntry (names : List (List ℕ)) (edits : List Edit) (text : List ℕ) (e : Entry) : Type 0 where
  pub value : Data
  pub json : value_of text ≡ Some value
  pub tells : TellsEntry names edits value e
