-- The parts of a world, and the world that parts make.
use Rattle.std.specs.Prelude.{ℕ, ◌≤◌, List, [], ◌∷◌, length, map, Option, is_none}
use Rattle.st_classes.specs.declared.edits.Edit.{Edit}
use Rattle.st_classes.specs.declared.refusals.Refusal.TheVariants.{UnknownActor}
use Rattle.st_classes.specs.Refusals.{Rule}
use Rattle.st_turn.specs.declared.body.Outcome.{Outcome}
use Rattle.st_turn.specs.declared.body.Phase.{Phase}
use Rattle.st_turn.specs.declared.body.Phase.TheVariants.{Fresh, Start, Frames, Done}
use Rattle.st_image.specs.declared.actor_part.ActorPart.{ActorPart}
use Rattle.st_image.specs.Worlds.{World, WorldActor, pending}

-- how the turn of a body ended, if it has ended
abbrev pub result_of : Phase → List Outcome
result_of Fresh = []
result_of (Start s args) = []
result_of (Frames fs) = []
result_of (Done o) = o ∷ []

-- the actor of a part: it has accepted what is pending, and has begun nothing; a turn that is done has its result
abbrev pub actor_of : ActorPart → WorldActor
actor_of a = record {
  class = a.class;
  capacity = a.capacity;
  is_open = a.is_open;
  body = a.body;
  last = a.last;
  accepted = a.pending;
  begun = [];
  results = result_of a.body.phase;
}

-- the world of a class table, actors and clients
abbrev pub world_of_parts : List Edit → List ActorPart → List (ℕ × ℕ) → World
world_of_parts edits parts clients = record { edits = edits; actors = map actor_of parts; clients = clients }

-- a part's mailbox has a capacity from 1 to 1,024, and its pending messages are within it
pub record FitsMailbox (a : ActorPart) : Type 0 where
  pub some : 1 ≤ a.capacity
  pub few : a.capacity ≤ 1024
  pub within : length a.pending ≤ a.capacity

-- the part of an actor
abbrev pub part_of : WorldActor → ActorPart
part_of b = record {
  class = b.class;
  capacity = b.capacity;
  is_open = b.is_open;
  body = b.body;
  last = b.last;
  pending = pending b;
}

-- the actor as one of a base: it has accepted just what is pending, and has begun nothing
abbrev pub rebased : WorldActor → WorldActor
rebased b = actor_of (part_of b)

-- the world as a base: its actors forget what they have begun, and how earlier turns ended
abbrev pub rebase : World → World
rebase w = record w { actors = map rebased w.actors }

-- the refusals of a part, in their order
abbrev pub part_rules : Option WorldActor → List Rule
part_rules b = (is_none b, UnknownActor) ∷ []
