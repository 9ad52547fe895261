-- Entries as JSON values.
use Rattle.std.specs.Prelude.{ℕ, List, codes}
use Rattle.serde_json.specs.Data.{Data, null, boolean, number, string, array, object, item, no_items, member, no_members}
use Rattle.st_classes.specs.declared.edits.Edit.{Edit}
use Rattle.st_classes.specs.declared.values.ActorId.{ActorId}
use Rattle.st_mailbox.specs.declared.messages.Message.{Message}
use Rattle.st_image.specs.Loading.{class_text}
use Rattle.st_wire.specs.Replies.{only, whole}
use Rattle.st_file.specs.EditJson.{define_json, install_json, remove_json, reparent_json}
use Rattle.st_file.specs.MessageJson.{message_json}
use Rattle.st_journal.specs.declared.entries.Entry.{Entry}
use Rattle.st_journal.specs.declared.entries.Entry.TheVariants as entry

-- an object with one more member, in front
abbrev pub with_first : List ℕ → Data → Data → Data
with_first key value (object members) = object (member key value members)
with_first key value null = null
with_first key value (boolean b) = boolean b
with_first key value (number n) = number n
with_first key value (string s) = string s
with_first key value (array items) = array items

-- a message and the actor to which it was posted
abbrev pub posted_json : List (List ℕ) → List Edit → ActorId → Message → Data
posted_json names edits actor m = with_first (codes "actor") (whole actor.0) (message_json names edits m)

-- an actor and the steps of one commit
abbrev pub ran_json : ActorId → ℕ → Data
ran_json actor steps = array (item (whole actor.0) (item (whole steps) no_items))

-- an entry, with the names of its classes and selectors
abbrev pub entry_json : List (List ℕ) → List Edit → Entry → Data
entry_json names edits (entry.Name text) = only (codes "name") (string text)
entry_json names edits (entry.Define name parent slots) = only (codes "edit") (define_json edits name parent slots)
entry_json names edits (entry.Install class source) = only (codes "edit") (install_json edits class source)
entry_json names edits (entry.Remove class selector) = only (codes "edit") (remove_json names edits class selector)
entry_json names edits (entry.Reparent class parent) = only (codes "edit") (reparent_json edits class parent)
entry_json names edits (entry.Created class) = only (codes "actor") (string (class_text edits class))
entry_json names edits (entry.Posted actor message) = only (codes "post") (posted_json names edits actor message)
entry_json names edits (entry.Closed actor) = only (codes "close") (whole actor.0)
entry_json names edits (entry.Begun actor) = only (codes "begun") (whole actor.0)
entry_json names edits (entry.Ran actor steps) = only (codes "ran") (ran_json actor steps)
entry_json names edits entry.Checkpoint = only (codes "checkpoint") (object no_members)
