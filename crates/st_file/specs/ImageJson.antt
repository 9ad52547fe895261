-- Images as JSON values.
use Rattle.std.specs.Prelude.{ℕ, List, drop, map, codes}
use Rattle.serde_json.specs.Data.{Data, array, object, string, Items, item, no_items, Members, member, no_members}
use Rattle.serde_json.specs.View.{items_of}
use Rattle.st_classes.specs.declared.edits.Edit.{Edit}
use Rattle.st_image.specs.declared.actor_part.ActorPart.{ActorPart}
use Rattle.st_image.specs.declared.counts.Counts.{Counts}
use Rattle.st_wire.specs.Replies.{whole}
use Rattle.st_file.specs.ActorJson.{actor_json}
use Rattle.st_file.specs.EditJson.{edit_json}

-- a client and the number of its last message
abbrev pub client_json : ℕ × ℕ → Data
client_json client = array (item (whole client.0) (item (whole client.1) no_items))

-- the members of a document in the second format, by its actors, edits, names and clients, and by what was counted
abbrev pub document_members : Items → Items → Items → Items → Counts → Members
document_members actors edits names senders counts =
    member (codes "actors") (array actors)
    (member (codes "edits") (array edits)
    (member (codes "format") (whole 2)
    (member (codes "names") (array names)
    (member (codes "posts") (whole counts.posts)
    (member (codes "senders") (array senders)
    (member (codes "steps") (whole counts.steps)
    no_members))))))

-- an image by its names, edits, actors, clients and counts, in the second format
abbrev pub image_json : List (List ℕ) → List Edit → List ActorPart → List (ℕ × ℕ) → Counts → Data
image_json names edits actors clients counts = object (document_members
    (items_of (map (actor_json names edits) actors))
    (items_of (map (edit_json names edits) edits))
    (items_of (map string (drop 22 names)))
    (items_of (map client_json clients))
    counts)
