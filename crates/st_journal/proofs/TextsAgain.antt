-- What is written of an entry is read as its JSON value.
use Rattle.std.proofs.Common.{◌≡◌, ℕ, List, Some, refl, arith}
use Rattle.serde_json.specs.Read.{read}
use Rattle.serde_json.specs.Written.{compact_text}
use Rattle.st_classes.specs.declared.edits.Edit.{Edit}
use Rattle.st_classes.specs.declared.edits.Edit.TheVariants as edit
use Rattle.st_file.proofs.PlainForms.{IsPlain, edit_plain, edit_whole, message_plain, message_whole}
use Rattle.st_file.proofs.ReadAgain.{HasWholeNumbers, read_again}
use Rattle.st_journal.specs.declared.entries.Entry.{Entry}
use Rattle.st_journal.specs.declared.entries.Entry.TheVariants as entry
use Rattle.st_journal.specs.EntryForms.{EntryIsInRange}
use Rattle.st_journal.specs.EntryJson.{entry_json}

module _ (names : List (List ℕ)) (edits : List Edit) where
  entry_plain : (e : Entry) → IsPlain 5 (entry_json names edits e)
  entry_plain (entry.Name text) = record { shallow = omega arith; whole = refl; ordered = refl }
  entry_plain (entry.Define name parent slots) =
      let told = edit_plain names edits (edit.Define name parent slots) in
      record { shallow = omega (arith, told.shallow); whole = rw told.whole refl; ordered = rw told.ordered refl }
  entry_plain (entry.Install class source) = record { shallow = omega arith; whole = refl; ordered = refl }
  entry_plain (entry.Remove class selector) = record { shallow = omega arith; whole = refl; ordered = refl }
  entry_plain (entry.Reparent class parent) = record { shallow = omega arith; whole = refl; ordered = refl }
  entry_plain (entry.Created class) = record { shallow = omega arith; whole = refl; ordered = refl }
  entry_plain (entry.Posted actor message) =
      let told = message_plain names edits message in
      record { shallow = omega (arith, told.shallow); whole = rw told.whole refl; ordered = rw told.ordered refl }
  entry_plain (entry.Closed actor) = record { shallow = omega arith; whole = refl; ordered = refl }
  entry_plain (entry.Begun actor) = record { shallow = omega arith; whole = refl; ordered = refl }
  entry_plain (entry.Ran actor steps) = record { shallow = omega arith; whole = refl; ordered = refl }
  entry_plain entry.Checkpoint = record { shallow = omega arith; whole = refl; ordered = refl }

  entry_whole : (e : Entry) → EntryIsInRange e → HasWholeNumbers (entry_json names edits e)
  entry_whole (entry.Name text) h = (tt, tt)
  entry_whole (entry.Define name parent slots) h = (edit_whole names edits (edit.Define name parent slots), tt)
  entry_whole (entry.Install class source) h = (((tt, (tt, tt)), tt), tt)
  entry_whole (entry.Remove class selector) h = (((tt, (tt, tt)), tt), tt)
  entry_whole (entry.Reparent class parent) h = (((tt, (tt, tt)), tt), tt)
  entry_whole (entry.Created class) h = (tt, tt)
  entry_whole (entry.Posted actor message) h = ((omega (arith, h.0), message_whole names edits message h.1), tt)
  entry_whole (entry.Closed actor) h = (omega (arith, h), tt)
  entry_whole (entry.Begun actor) h = (omega (arith, h), tt)
  entry_whole (entry.Ran actor steps) h = ((omega (arith, h.0), (omega (arith, h.2), tt)), tt)
  entry_whole entry.Checkpoint h = (tt, tt)

  pub entry_text_again : (e : Entry) → EntryIsInRange e → read (compact_text (entry_json names edits e)) ≡ Some (entry_json names edits e)
  entry_text_again e h =
      let plain = entry_plain e in
      read_again (entry_json names edits e) (entry_whole e h) plain.ordered (omega (arith, plain.shallow))
