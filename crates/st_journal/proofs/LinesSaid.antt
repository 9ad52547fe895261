-- The text of an entry says this entry.
use Rattle.std.proofs.Common.{◌≡◌, ℕ, List, Result, Ok, Err, sym, subst}
use Rattle.std.specs.Prelude.{IfOk}
use Rattle.std.specs.Str.{IsUtf8}
use Rattle.st_classes.specs.declared.edits.Edit.{Edit}
use Rattle.st_classes.specs.EditLists.{AreLawful}
use Rattle.st_classes.specs.Names.{AreNames}
use Rattle.st_wire.proofs.Lines.{value-line}
use Rattle.st_journal.specs.declared.entries.Entry.{Entry}
use Rattle.st_journal.specs.EntryForms.{CanBeTold}
use Rattle.st_journal.specs.EntryJson.{entry_json}
use Rattle.st_journal.specs.EntryLines.{SaysEntry, entry_text}
use Rattle.st_journal.proofs.EntriesRead.{entries_are_read}
use Rattle.st_journal.proofs.TextsAgain.{entry_text_again}

pub says_again : (names : List (List ℕ)) (edits : List Edit) (e : Entry) → AreNames names → AreLawful edits → IsUtf8 (entry_text names edits e) → CanBeTold names edits e
    → SaysEntry names edits (entry_text names edits e) e
says_again names edits e are lawful utf8 can = record {
  value = entry_json names edits e;
  json = value-line (entry_text names edits e) (entry_json names edits e) (utf8, entry_text_again names edits e can.in_range);
  tells = entries_are_read names edits e are lawful can;
}

-- what holds of a line holds of a result that is this line
pub of_line : {T E : Type 0} (r : Result T E) (bytes : T → List ℕ) (line : List ℕ) (P : List ℕ → Type 0) → IfOk r (λ v. bytes v ≡ line) → P line → IfOk r (λ v. P (bytes v))
of_line (Ok v) bytes line P is h = subst P (sym is) h
of_line (Err e) bytes line P is h = tt

-- what holds, holds of any result
pub of_any : {T E : Type 0} (r : Result T E) (P : Type 0) → P → IfOk r (λ v. P)
of_any (Ok v) P h = h
of_any (Err e) P h = tt
