-- What queries are answered from: what is seen of an image in one moment.
use Rattle.std.specs.Prelude.{ℕ, List, [], length, Option, Some, None, option_map, slice_get}
use Rattle.st_classes.specs.declared.edits.Edit.{Edit}
use Rattle.st_image.specs.declared.counts.Counts.{Counts}
use Rattle.st_image.specs.Failures.{failures_of}
use Rattle.st_image.specs.Images.{ImageView, counts_of, edits_made, world}
use Rattle.st_image.specs.Worlds.{WorldActor}
use Rattle.st_wire.specs.declared.queries.Query.{Query}
use Rattle.st_wire.specs.declared.queries.Query.TheVariants.{Actors, Fault, Faults, Inspect}
use Rattle.st_queries.specs.Endings.{ending_of}
use Rattle.st_queries.specs.FailedTurns.{failed_since}
use Rattle.st_queries.specs.ActorSnapshots.{actor_snapshots_from}
use Rattle.st_queries.specs.Inspecting.{inspected_of}
use Rattle.st_queries.specs.declared.endings.Ending.{Ending}
use Rattle.st_queries.specs.declared.failed_turns.FailedSince.{FailedSince}
use Rattle.st_queries.specs.declared.actor_snapshots.ActorSnapshot.{ActorSnapshot}
use Rattle.st_queries.specs.declared.inspecting.Inspected.{Inspected}

-- the names and the edits; what is seen of those actors that are asked for; the one that is inspected; the turns that failed; how the
-- turn that is asked for ended; and numbers: of the actors, of the turns that failed, of the edits that the run has accepted, of the
-- items of the history, of the most that it holds, and of the posts and steps
pub record Snapshot : Type 0 where
  pub names : List (List ℕ)
  pub edits : List Edit
  pub actor_snapshots : List ActorSnapshot
  pub inspected : Option Inspected
  pub failed : FailedSince
  pub ending : Option Ending
  pub actors : ℕ
  pub failed_turns : ℕ
  pub edits_made : ℕ
  pub items : ℕ
  pub most_items : ℕ
  pub counts : Counts

-- what is seen of the actors that a query asks for
abbrev pub actor_snapshots_for : Query → List WorldActor → List ActorSnapshot
actor_snapshots_for (Actors from most) actors = actor_snapshots_from from most actors
actor_snapshots_for _ actors = []

-- what is copied of the actor that a query inspects, if there is one
abbrev pub inspected_for : Query → List WorldActor → Option Inspected
inspected_for (Inspect a) actors = option_map inspected_of (slice_get actors a.0)
inspected_for _ actors = None

-- the turns that failed behind the steps that a query names
abbrev pub failed_for : Query → ImageView → FailedSince
failed_for (Faults after) i = failed_since i after
failed_for _ i = record { from = 0; turns = [] }

-- how the turn ended that a query asks for
abbrev pub ending_for : Query → ImageView → Option Ending
ending_for (Fault a turn) i = Some (ending_of i a turn)
ending_for _ i = None

-- what is seen of an image for a query
abbrev pub snapshot : ImageView → Query → Snapshot
snapshot i q = record {
  names = i.names;
  edits = (world i).edits;
  actor_snapshots = actor_snapshots_for q (world i).actors;
  inspected = inspected_for q (world i).actors;
  failed = failed_for q i;
  ending = ending_for q i;
  actors = length (world i).actors;
  failed_turns = length (failures_of i);
  edits_made = edits_made i;
  items = length i.history;
  most_items = i.most_items;
  counts = counts_of i;
}
