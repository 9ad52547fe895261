-- What holds of the fields of an image.
use Rattle.std.specs.Prelude.{◌≡◌, ℕ, ◌+◌, ◌*◌, ◌<◌, ◌≤◌, List, length, Option, None, Some, All, if◌then◌else◌, slice_get}
use Rattle.st_classes.specs.declared.values.ActorId.{ActorId}
use Rattle.st_classes.specs.declared.edits.Edit.{Edit}
use Rattle.st_classes.specs.Kernel.{does_not_understand}
use Rattle.st_classes.specs.MethodSuits.{arity_at}
use Rattle.st_classes.specs.EditLists.{AreLawful, AllSuit, AllSound}
use Rattle.st_turn.specs.declared.body.Body.{Body}
use Rattle.st_turn.specs.BodyFits.{Referents, Fits}
use Rattle.st_turn.specs.Idle.{is_idle}
use Rattle.st_image.specs.declared.history.Item.{Item}
use Rattle.st_image.specs.declared.settings.Settings.{Settings}
use Rattle.st_image.specs.EarlierCounts.{EarlierCounts}
use Rattle.st_image.specs.Failures.{KeptFailures, failures_kept, failures_through}
use Rattle.st_image.specs.Worlds.{World, WorldActor}
use Rattle.st_image.specs.Replay.{replay}
use Rattle.st_image.specs.Images.{world_of, edits_in}
use Rattle.st_image.specs.WorldInvariant.{AreSettings, HaveTurns, IsSoundItem, IsWorld}
use Rattle.st_image.specs.Senders.{InSendingOrder}
use Rattle.st_image.specs.Clients.{KeepsClients}
use Rattle.st_image.specs.Changes.{CountsChanges, change_count}
use Rattle.st_image.specs.Counts.{CountsItems}
use Rattle.st_image.specs.CompiledEdits.{AllCompiled}
use Rattle.st_image.specs.declared.counts.Counts.{Counts}
use Rattle.st_image.specs.ActorViews.{ActorView, Shows}
use Rattle.st_image.specs.ActResults.{constants_of}
use Rattle.st_turn.specs.declared.tally.Tally.{Tally}
use Rattle.st_image.specs.Tallies.{CountsSends}

-- the history leads from the base to the world that is kept, and all numbers are within their limits
pub record IsImage (base : World) (names : List (List ℕ)) (edits : List Edit) (actors : List ActorView)
    (history : List Item) (made : ℕ) (s : Settings) : Type 0 where
  pub base_is : IsWorld (constants_of names s.capacity) base
  pub senders : InSendingOrder base
  pub sound : All IsSoundItem history
  pub lawful : replay (constants_of names s.capacity) base history
      ≡ Some (world_of (constants_of names s.capacity) base history)
  pub shows : Shows edits actors (world_of (constants_of names s.capacity) base history)
  pub world : IsWorld (constants_of names s.capacity) (world_of (constants_of names s.capacity) base history)
  pub turns : HaveTurns base (world_of (constants_of names s.capacity) base history)
  pub counted : made ≡ edits_in history
  pub numbers : AreSettings s
  pub few_items : length history ≤ s.history
  pub few_accepted : All (λ (k : ActorView). k.accepted ≤ length history + 1024) actors

-- 1 if an actor is in a turn, else 0
abbrev pub turns_open : Option WorldActor → ℕ
turns_open None = 0
turns_open (Some b) = if is_idle b.body.phase then 0 else 1

-- What was counted before a base fits it: no more edits than its table has, and for each body at most two changes for each step that
-- was taken, and one more if its actor is in a turn. Each turn begins once and takes a step before it ends.
pub record FitsBase (e : EarlierCounts) (base : World) : Type 0 where
  pub edits : e.edits ≤ length base.edits
  pub changes : (a : ℕ) → change_count e.changes a ≤ 2 * e.steps + turns_open (slice_get base.actors a)

-- The history leads to what is kept. The numbers of clients are those that it leads to. The tallies count its sends. Each actor's count of
-- changes is how often the history changed its body. The posts and the steps of the history are counted. The methods of the table are
-- compiled from their sources. What was counted before the base fits it. The newest failures of the history are kept, and counted.
pub record HoldsImage (base : World) (names : List (List ℕ)) (edits : List Edit) (actors : List ActorView)
    (history : List Item) (made : ℕ) (s : Settings) (clients : List ℕ) (tallies : List (List Tally))
    (changes : List ℕ) (counted : Counts) (earlier : EarlierCounts) (failed : KeptFailures) : Type 0 where
  pub image : IsImage base names edits actors history made s
  pub numbers_of_clients : KeepsClients clients base.clients history
  pub sends : CountsSends (constants_of names s.capacity) base history tallies
  pub counts : CountsChanges changes history
  pub totals : CountsItems counted earlier history
  pub compiled : AllCompiled names edits
  pub before : FitsBase earlier base
  pub failures : failed ≡ failures_kept (failures_through (constants_of names s.capacity) base earlier.steps base history)

-- a body fits a table whose edits are lawful and sound; so its steps fit it too
abbrev pub CanRun : List Edit → ActorId → Body → Type 0
CanRun edits a b = (given : Referents) × AreLawful edits × AllSuit given.names edits × AllSound edits
    × (arity_at given.names does_not_understand ≡ Some 1)
    × (a.0 < given.actors)
    × Fits given edits b
