-- What is told of an actor: what an image file has of it, and the number of its turn.
use Rattle.std.specs.Prelude.{ℕ, List, length, Option, Some, None, codes}
use Rattle.serde_json.specs.Data.{Data, null, object, member, no_members}
use Rattle.st_classes.specs.declared.edits.Edit.{Edit}
use Rattle.st_turn.specs.declared.body.Phase.{Phase}
use Rattle.st_turn.specs.declared.body.Phase.TheVariants.{Fresh}
use Rattle.st_image.specs.Parts.{part_of}
use Rattle.st_image.specs.Worlds.{WorldActor}
use Rattle.st_wire.specs.Replies.{whole}
use Rattle.st_file.specs.ActorJson.{actor_members}
use Rattle.st_queries.specs.declared.inspecting.Inspected.{Inspected}

-- the number of the turn that stands in a body, where so many were begun; none before the first
abbrev pub turn_in : Phase → ℕ → Option ℕ
turn_in Fresh begun = None
turn_in _ begun = Some begun

-- what is copied of an actor
abbrev pub inspected_of : WorldActor → Inspected
inspected_of b = record { part = part_of b; turn = turn_in b.body.phase (length b.begun) }

abbrev pub number_told : Option ℕ → Data
number_told None = null
number_told (Some n) = whole n

-- the members that an image file has, and the turn's number
abbrev pub inspected_told : List (List ℕ) → List Edit → Inspected → Data
inspected_told names edits a = object
    (actor_members names edits a.part
    (member (codes "turn") (number_told a.turn)
    no_members))
