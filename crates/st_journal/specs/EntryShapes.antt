-- The forms of entries: what a JSON value says, in texts.
use Rattle.std.specs.Prelude.{ℕ, ◌^◌, ◌-◌, ◌==◌, List, [], ◌∷◌, codes, if◌then◌else◌, Option, Some, None, option_map, option_and_then}
use Rattle.std.specs.Option.{option_map_or}
use Rattle.serde_json.specs.Data.{Data, null, boolean, number, string, array, object}
use Rattle.serde_json.specs.Find.{get, as_number, as_u64}
use Rattle.st_classes.specs.declared.values.ActorId.{ActorId}
use Rattle.st_wire.specs.Fields.{actor, actor_at, number_at, size, text, text_at, within}
use Rattle.st_wire.specs.Keys.{of_keys}
use Rattle.st_file.specs.declared.texts.MessageText.{MessageText}
use Rattle.st_file.specs.Shapes.{count, edit_in, message_from, one_at, sender_in, values_at, whole_in}
use Rattle.st_journal.specs.declared.texts.EntryText.{EntryText}
use Rattle.st_journal.specs.declared.texts.EntryText.TheVariants as told

-- ---- the values at the keys

-- a name
abbrev pub name_in : Data → Option EntryText
name_in d = option_map told.Name (text d)

-- an edit, as image files have it
abbrev pub edited_in : Data → Option EntryText
edited_in d = option_map told.Edited (edit_in d)

-- the name of a class
abbrev pub created_in : Data → Option EntryText
created_in d = option_map told.Created (text d)

abbrev pub posted_from : Option ActorId → Option MessageText → Option EntryText
posted_from (Some a) (Some m) = Some (told.Posted a m)
posted_from _ _ = None

-- the message of an object that has its members, as image files have them, and others
abbrev pub message_of : Data → Option MessageText
message_of d = message_from
    (values_at (codes "args") d)
    (text_at (codes "selector") d)
    (one_at sender_in (codes "sender") d)
    (number_at (codes "seq") d)

-- a message, and the actor to which it was posted
abbrev pub posted_in : Data → Option EntryText
posted_in d =
    of_keys (codes "actor" ∷ codes "args" ∷ codes "selector" ∷ codes "sender" ∷ codes "seq" ∷ []) d
    (posted_from (actor_at (codes "actor") d) (message_of d))

-- the number of an actor
abbrev pub actor_number : Data → Option ActorId
actor_number d = option_map actor (within 0 (2 ^ 32 - 1) (option_and_then as_u64 (as_number d)))

abbrev pub closed_in : Data → Option EntryText
closed_in d = option_map told.Closed (actor_number d)

abbrev pub begun_in : Data → Option EntryText
begun_in d = option_map told.Begun (actor_number d)

abbrev pub ran_from : Option ℕ → Option ℕ → Option EntryText
ran_from (Some a) (Some steps) = Some (told.Ran (actor a) steps)
ran_from _ _ = None

-- an actor and the steps of one commit, of which there is at least one, as `[n,steps]`
abbrev pub ran_in : Data → Option EntryText
ran_in d = if count d == 2 then ran_from (whole_in 0 0 (2 ^ 32 - 1) d) (whole_in 1 1 (2 ^ 32 - 1) d) else None

-- an object without keys
abbrev pub checkpoint_in : Data → Option EntryText
checkpoint_in (object members) = if size (object members) == 0 then Some told.Checkpoint else None
checkpoint_in null = None
checkpoint_in (boolean b) = None
checkpoint_in (number n) = None
checkpoint_in (string s) = None
checkpoint_in (array items) = None

-- ---- entries

-- what f reads of the value at a key, or what else there is where the key is missing
abbrev pub read_at : List ℕ → (Data → Option EntryText) → Data → Option EntryText → Option EntryText
read_at key f d other = option_map_or f (get key d) other

-- an entry of a turn or of the whole image
abbrev pub turn_by : Data → Option EntryText
turn_by d =
    read_at (codes "close") closed_in d
    (read_at (codes "begun") begun_in d
    (read_at (codes "ran") ran_in d
    (read_at (codes "checkpoint") checkpoint_in d
    None)))

-- an entry, by the first of these keys that the value has
abbrev pub entry_by : Data → Option EntryText
entry_by d =
    read_at (codes "name") name_in d
    (read_at (codes "edit") edited_in d
    (read_at (codes "actor") created_in d
    (read_at (codes "post") posted_in d
    (turn_by d))))

-- an entry is an object of one key
abbrev pub entry_in : Data → Option EntryText
entry_in d = if size d == 1 then entry_by d else None
