-- What is told of actors.
use Rattle.std.specs.Prelude.{ℕ, ◌+◌, List, length, Option, Some, None, codes, option_map, slice_get}
use Rattle.serde_json.specs.Data.{Data, null, boolean, string, object, member, no_members}
use Rattle.st_classes.specs.declared.edits.Edit.{Edit}
use Rattle.st_classes.specs.declared.methods.MethodParts.{MethodParts}
use Rattle.st_classes.specs.EditLists.{method_at}
use Rattle.st_image.specs.Loading.{class_text}
use Rattle.st_wire.specs.Replies.{whole}
use Rattle.st_queries.specs.declared.actor_snapshots.ActorSnapshot.{ActorSnapshot}
use Rattle.st_queries.specs.declared.actor_snapshots.Stand.{Stand}
use Rattle.st_queries.specs.declared.actor_snapshots.Stand.TheVariants.{Fresh, Started, Running, Ended}
use Rattle.st_queries.specs.Listing.{listed}
use Rattle.st_queries.specs.Outcomes.{outcome_told}
use Rattle.st_queries.specs.Snapshots.{Snapshot}
use Rattle.st_queries.specs.MethodNames.{method_named}

-- the phase of a turn: `"fresh"`, `"start"`, `"frames"`, or how it ended
abbrev pub phase_told : List (List ℕ) → List Edit → Stand → Data
phase_told names edits Fresh = string (codes "fresh")
phase_told names edits Started = string (codes "start")
phase_told names edits (Running m) = string (codes "frames")
phase_told names edits (Ended outcome) = outcome_told names edits outcome

-- an installed method by its name; null without one
abbrev pub running_method : List (List ℕ) → List Edit → Option MethodParts → Data
running_method names edits None = null
running_method names edits (Some m) = method_named names edits m.holder m.selector

-- the method of the running frame, if there is one
abbrev pub running_told : List (List ℕ) → List Edit → Stand → Data
running_told names edits (Running m) = running_method names edits (method_at edits m)
running_told names edits _ = null

-- an actor by its number
abbrev pub actor_told : List (List ℕ) → List Edit → ℕ → ActorSnapshot → Data
actor_told names edits n g = object
    (member (codes "accepted") (whole g.accepted)
    (member (codes "actor") (whole n)
    (member (codes "begun") (whole g.begun)
    (member (codes "class") (string (class_text edits g.class))
    (member (codes "open") (boolean g.is_open)
    (member (codes "phase") (phase_told names edits g.stand)
    (member (codes "running") (running_told names edits g.stand)
    no_members)))))))

-- the actors that are seen, of which the first has this number, and how many there are in all
abbrev pub actors_told : Snapshot → ℕ → Data
actors_told s from = object
    (member (codes "actors") (listed (λ n. option_map (actor_told s.names s.edits (from + n)) (slice_get s.actor_snapshots n)) 0 (length s.actor_snapshots))
    (member (codes "count") (whole s.actors)
    no_members))
