-- The JSON values of entries are read as these.
use Rattle.std.proofs.Common.{ℕ, ◌<◌, ◌≤◌, ◌^◌, ◌-◌, List, option_map, refl, ap, ap₂, arith}
use Rattle.st_classes.specs.declared.edits.Edit.{Edit}
use Rattle.st_classes.specs.declared.values.ActorId.{ActorId}
use Rattle.st_classes.specs.EditLists.{AreLawful}
use Rattle.st_classes.specs.Names.{AreNames}
use Rattle.st_image.specs.declared.edit_text.EditText.TheVariants as edit
use Rattle.st_image.specs.Loading.{class_text, selector_text}
use Rattle.st_mailbox.specs.declared.messages.Message.{Message}
use Rattle.st_wire.specs.Fields.{actor as actor_of}
use Rattle.st_file.specs.Named.{MessageIsNamed}
use Rattle.st_file.specs.Ranges.{MessageIsInRange}
use Rattle.st_file.proofs.ItemForms.{texts_read}
use Rattle.st_file.proofs.ValueForms.{actor_within, class_is_again, message_read, selector_again, within_bounds}
use Rattle.st_journal.specs.declared.entries.Entry.{Entry}
use Rattle.st_journal.specs.declared.entries.Entry.TheVariants as entry
use Rattle.st_journal.specs.declared.texts.EntryText.TheVariants as told
use Rattle.st_journal.specs.EntryForms.{EntriesAreRead, EntryIsInRange, EntryIsNamed}
use Rattle.st_journal.specs.EntryJson.{entry_json}
use Rattle.st_journal.specs.EntryMeanings.{TellsEntry}
use Rattle.st_journal.specs.EntryShapes.{posted_from, ran_from}

module _ (names : List (List ℕ)) (edits : List Edit) (are : AreNames names) (lawful : AreLawful edits) where
  posted_read : (actor : ActorId) (m : Message) → MessageIsNamed names edits m → actor.0 < 2 ^ 32 → MessageIsInRange m → TellsEntry names edits (entry_json names edits (entry.Posted actor m)) (entry.Posted actor m)
  posted_read actor m named small range =
      let message = message_read names edits are lawful m named range in
      record {
        text = told.Posted actor message.text;
        read = ap₂ posted_from (ap (option_map actor_of) (actor_within actor.0 small)) message.read;
        meant = ap (option_map (entry.Posted actor)) message.meant;
      }

  ran_read : (actor : ActorId) (steps : ℕ) → actor.0 < 2 ^ 32 → 1 ≤ steps → steps < 2 ^ 32 → TellsEntry names edits (entry_json names edits (entry.Ran actor steps)) (entry.Ran actor steps)
  ran_read actor steps small some few = record {
    text = told.Ran actor steps;
    read = ap₂ ran_from (actor_within actor.0 small) (within_bounds 1 (2 ^ 32 - 1) steps some (omega arith));
    meant = refl;
  }

  entry_read : (e : Entry) → EntryIsNamed names edits e → EntryIsInRange e → TellsEntry names edits (entry_json names edits e) e
  entry_read (entry.Name text) named range = record { text = told.Name text; read = refl; meant = refl }
  entry_read (entry.Define name parent slots) named range = record {
    text = told.Edited (edit.Define name (class_text edits parent) slots);
    read = rw (texts_read slots) refl;
    meant = rw (class_is_again edits parent lawful named) refl;
  }
  entry_read (entry.Install class source) named range = record {
    text = told.Edited (edit.Install (class_text edits class) source);
    read = refl;
    meant = rw (class_is_again edits class lawful named) refl;
  }
  entry_read (entry.Remove class selector) named range = record {
    text = told.Edited (edit.Remove (class_text edits class) (selector_text names selector));
    read = refl;
    meant = rw (class_is_again edits class lawful named.0, selector_again names selector are named.1) refl;
  }
  entry_read (entry.Reparent class parent) named range = record {
    text = told.Edited (edit.Reparent (class_text edits class) (class_text edits parent));
    read = refl;
    meant = rw (class_is_again edits class lawful named.0, class_is_again edits parent lawful named.1) refl;
  }
  entry_read (entry.Created class) named range = record { text = told.Created (class_text edits class); read = refl; meant = rw (class_is_again edits class lawful named) refl }
  entry_read (entry.Posted actor m) named range = posted_read actor m named range.0 range.1
  entry_read (entry.Closed actor) named range = record { text = told.Closed actor; read = rw (actor_within actor.0 range) refl; meant = refl }
  entry_read (entry.Begun actor) named range = record { text = told.Begun actor; read = rw (actor_within actor.0 range) refl; meant = refl }
  entry_read (entry.Ran actor steps) named range = ran_read actor steps range.0 range.1 range.2
  entry_read entry.Checkpoint named range = record { text = told.Checkpoint; read = refl; meant = refl }

pub entries_are_read : EntriesAreRead
entries_are_read names edits e are lawful can = entry_read names edits are lawful e can.named can.in_range
