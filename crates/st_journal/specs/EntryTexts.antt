-- The lines of a text, done again one after the other, and why a line is not done again.
use Rattle.std.specs.Prelude.{◌≡◌, ◌⊎◌, ℕ, ◌==◌, List, [], ◌∷◌, ◌++◌, slice_get, take, if◌then◌else◌, Some, None}
use Rattle.std.specs.List.{onto_first}
use Rattle.serde_json.specs.Data.{Data}
use Rattle.st_classes.specs.declared.refusals.Refusal.TheVariants.{NoMemory}
use Rattle.st_image.specs.Images.{ImageView, world}
use Rattle.st_image.specs.WorldInvariant.{IsLawful}
use Rattle.st_wire.specs.Commands.{value_of}
use Rattle.st_journal.specs.declared.entries.Entry.{Entry}
use Rattle.st_journal.specs.declared.redo_error.LineError.{LineError}
use Rattle.st_journal.specs.declared.redo_error.LineError.TheVariants.{NotJson, NotEntry, Redo}
use Rattle.st_journal.specs.declared.redo_error.RedoError.{RedoError}
use Rattle.st_journal.specs.declared.redo_error.RedoError.TheVariants.{Refused}
use Rattle.st_journal.specs.declared.redo_error.RefusedLine.{RefusedLine}
use Rattle.st_journal.specs.Entries.{Leads, LeadsAll}
use Rattle.st_journal.specs.EntryLines.{SaysEntry, entry_line, entry_text}
use Rattle.st_journal.specs.EntryMeanings.{TellsEntry}
use Rattle.st_journal.specs.Refused.{Refuses}

-- ---- lines that say entries

-- the lines of a text: what stands before each newline, and what stands behind the last one unless nothing does
abbrev pub lines_of : List ℕ → List (List ℕ)
lines_of [] = []
lines_of (b ∷ bs) = if b == 10 then [] ∷ lines_of bs else onto_first b (lines_of bs)

-- a line says an entry by the names and the present class table of an image
abbrev pub SaysAt : ImageView → List ℕ → Entry → Type 0
SaysAt i line e = SaysEntry i.names (world i).edits line e

-- lines say entries, one after the other, each at the image to which those before it led
abbrev pub ReadsAll : ImageView → List (List ℕ) → List Entry → ImageView → Type 0
ReadsAll i [] [] k = k ≡ i
ReadsAll i (line ∷ lines) (e ∷ es) k = (j : ImageView) × SaysAt i line e × Leads i e j × IsLawful j × ReadsAll j lines es k
ReadsAll i [] (e ∷ es) k = ⊥
ReadsAll i (line ∷ lines) [] k = ⊥

-- entries that lines say lead where the lines lead
abbrev pub ReadingLeads : Type 0
ReadingLeads = (i k : ImageView) (lines : List (List ℕ)) (es : List Entry) → ReadsAll i lines es k → LeadsAll i es k

-- ---- texts that tell entries

-- entries are told as a text, line by line, each by the names and the class table of the image to which those before it led
abbrev pub TellsAll : ImageView → List Entry → List ℕ → ImageView → Type 0
TellsAll i [] text k = (text ≡ []) × (k ≡ i)
TellsAll i (e ∷ es) text k = (j : ImageView) × (rest : List ℕ)
    × (text ≡ entry_line i.names (world i).edits e ++ rest)
    × SaysAt i (entry_text i.names (world i).edits e) e
    × Leads i e j
    × IsLawful j
    × TellsAll j es rest k

-- the lines of such a text say these entries
abbrev pub ToldIsRead : Type 0
ToldIsRead = (i k : ImageView) (es : List Entry) (text : List ℕ) → TellsAll i es text k → ReadsAll i (lines_of text) es k

-- lines say one list of entries at an image, and lead to one list of names and one world
abbrev pub ReadsOne : Type 0
ReadsOne = (i j k : ImageView) (lines : List (List ℕ)) (es fs : List Entry)
    → ReadsAll i lines es j
    → ReadsAll i lines fs k
    → (es ≡ fs) × (j.names ≡ k.names) × (world j ≡ world k)

-- ---- lines that are refused

-- a line is the text of a JSON value that tells no entry at an image
pub record SaysNoEntry (i : ImageView) (line : List ℕ) : Type 0 where
  pub value : Data
  pub json : value_of line ≡ Some value
  pub none : (e : Entry) → TellsEntry i.names (world i).edits value e → ⊥

-- a line says an entry at an image, and the image refuses it
pub record SaysRefused (i : ImageView) (line : List ℕ) (error : RedoError) : Type 0 where
  pub entry : Entry
  pub says : SaysAt i line entry
  pub refused : Refuses i entry error

-- why a line is not done again
abbrev pub RefusesLine : ImageView → List ℕ → LineError → Type 0
RefusesLine i line NotJson = value_of line ≡ None
RefusesLine i line NotEntry = SaysNoEntry i line
RefusesLine i line (Redo error) = (error ≡ Refused NoMemory) ⊎ SaysRefused i line error

-- the lines before a place were done, and the image to which they led refuses the one there
pub record StopsAtLine (i : ImageView) (lines : List (List ℕ)) (r : RefusedLine) : Type 0 where
  pub image : ImageView
  pub entries : List Entry
  pub done : ReadsAll i (take r.place lines) entries image
  pub last : List ℕ
  pub there : slice_get lines r.place ≡ Some last
  pub refused : RefusesLine image last r.error
