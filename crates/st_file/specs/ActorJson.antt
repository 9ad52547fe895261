-- Actors as JSON values.
use Rattle.std.specs.Prelude.{ℕ, List, codes}
use Rattle.serde_json.specs.Data.{Data, boolean, string, object, Members, member, no_members}
use Rattle.st_classes.specs.declared.edits.Edit.{Edit}
use Rattle.st_image.specs.declared.actor_part.ActorPart.{ActorPart}
use Rattle.st_image.specs.Loading.{class_text}
use Rattle.st_wire.specs.Replies.{whole}
use Rattle.st_file.specs.ListJson.{each}
use Rattle.st_file.specs.BodyJson.{body_json}
use Rattle.st_file.specs.MessageJson.{message_json}

-- the members of an actor, and more behind them
abbrev pub actor_members : List (List ℕ) → List Edit → ActorPart → Members → Members
actor_members names edits a more =
    member (codes "body") (body_json names edits a.body)
    (member (codes "capacity") (whole a.capacity)
    (member (codes "class") (string (class_text edits a.class))
    (member (codes "last") (whole a.last)
    (member (codes "open") (boolean a.is_open)
    (member (codes "pending") (each (message_json names edits) a.pending)
    more)))))

-- an actor, as an image file has it
abbrev pub actor_json : List (List ℕ) → List Edit → ActorPart → Data
actor_json names edits a = object (actor_members names edits a no_members)
