-- What holds of every world that a history leads to.
use Rattle.std.specs.Prelude.{◌≡◌, ℕ, suc, ◌+◌, ◌≤◌, List, [], ◌∷◌, ◌++◌, length, true, Option, Some, None, slice_get, All, if◌then◌else◌}
use Rattle.st_classes.specs.declared.values.Value.TheVariants.{Local}
use Rattle.st_classes.specs.declared.edits.Edit.{Edit}
use Rattle.st_classes.specs.Kernel.{kernel_selectors}
use Rattle.st_classes.specs.Classes.{class_count}
use Rattle.st_classes.specs.EditLists.{AreLawful, AllSuit, AllSound, IsSoundEdit}
use Rattle.st_turn.specs.declared.body.Outcome.{Outcome}
use Rattle.st_turn.specs.declared.body.Phase.{Phase}
use Rattle.st_turn.specs.declared.body.Phase.TheVariants.{Fresh, Done}
use Rattle.st_turn.specs.Idle.{is_idle}
use Rattle.st_turn.specs.Objects.{class_in}
use Rattle.st_turn.specs.BodyFits.{Referents, FitsPhase, Fits}
use Rattle.st_mailbox.specs.declared.messages.Message.{Message}
use Rattle.st_image.specs.declared.history.Item.{Item}
use Rattle.st_image.specs.declared.history.Item.TheVariants.{Edited}
use Rattle.st_image.specs.declared.settings.Settings.{Settings}
use Rattle.st_image.specs.Worlds.{Constants, World, WorldActor, pending}
use Rattle.st_image.specs.Replay.{replay}
use Rattle.st_image.specs.Counts.{CanBeCounted}
use Rattle.st_image.specs.Images.{ImageView, constants, counts_of, world}
use Rattle.st_image.specs.PostRules.{message_fits}
use Rattle.st_image.specs.Senders.{InSendingOrder}
use Rattle.st_image.specs.Delivery.{BeginsInOrder}
use Rattle.st_image.specs.Starts.{StartsLast, StartsWithoutLocals}

-- names, and a number of actors
abbrev pub given : List (List ℕ) → ℕ → Referents
given names actors = record { names = names; actors = actors }

-- an actor: its body fits the table, its first object is of its class, and a message that it is yet to dispatch has none of its own
-- objects; its mailbox is within its capacity; what it has begun is a prefix of what it accepted; what it accepted still fits its
-- selectors and names what exists; and what a result names exists
pub record IsWorldActor (names : List (List ℕ)) (edits : List Edit) (actors : ℕ) (b : WorldActor) : Type 0 where
  pub fits : Fits (given names actors) edits b.body
  pub itself : class_in b.body.objects (Local 0) ≡ b.class
  pub plain : StartsWithoutLocals b.body.phase
  pub some_capacity : 1 ≤ b.capacity
  pub few_messages : b.capacity ≤ 1024
  pub within : length (pending b) ≤ b.capacity
  pub begins : BeginsInOrder b
  pub mail : All (λ (m : Message). message_fits names (class_count edits) actors m ≡ true) b.accepted
  pub told : All (λ (o : Outcome). FitsPhase (given names actors) edits b.body.objects (Done o)) b.results

-- the kernel's names are a prefix of the names
abbrev pub BeginsWithKernel : List (List ℕ) → Type 0
BeginsWithKernel names = (more : List (List ℕ)) × (names ≡ kernel_selectors ++ more)

-- an item's edit, if it is an edit, is sound
abbrev pub IsSoundItem : Item → Type 0
IsSoundItem (Edited e) = IsSoundEdit e
IsSoundItem _ = Unit {0}

-- the constants of a run: the kernel's names are a prefix of the names, and the capacity is from 1 to 1,024
pub record AreConstants (c : Constants) : Type 0 where
  pub kernel : BeginsWithKernel c.names
  pub some_capacity : 1 ≤ c.capacity
  pub few_messages : c.capacity ≤ 1024

-- clients rise from a number on, and each has sent a message
abbrev pub AreClientsFrom : ℕ → List (ℕ × ℕ) → Type 0
AreClientsFrom least [] = Unit {0}
AreClientsFrom least (p ∷ ps) = (least ≤ p.0) × (1 ≤ p.1) × AreClientsFrom (suc p.0) ps

-- the table is lawful and its methods suit and are sound, the actors fit it, and the clients rise
pub record IsWorld (c : Constants) (w : World) : Type 0 where
  pub constants : AreConstants c
  pub lawful : AreLawful w.edits
  pub suited : AllSuit c.names w.edits
  pub sound : AllSound w.edits
  pub actors : All (IsWorldActor c.names w.edits (length w.actors)) w.actors
  pub clients : AreClientsFrom 0 w.clients

-- ---- names

-- a lawful history stays lawful, and leads to the same world, if more names are appended
abbrev pub NamesMayGrow : Type 0
NamesMayGrow = (names more : List (List ℕ)) (capacity : ℕ) (base w : World) (h : List Item)
    → IsWorld (record { names = names; capacity = capacity }) base
    → All IsSoundItem h
    → replay (record { names = names; capacity = capacity }) base h ≡ Some w
    → replay (record { names = names ++ more; capacity = capacity }) base h ≡ Some w

-- ---- turns and results

-- the number of the first turn of an actor that begins with such a body: 0 if it is in a turn or has ended one, else 1
abbrev pub first_of_phase : Phase → ℕ
first_of_phase Fresh = 1
first_of_phase _ = 0

-- the number of an actor's first turn, where it is an actor of the base or a later one
abbrev pub first_turn : Option WorldActor → ℕ
first_turn None = 1
first_turn (Some b) = first_of_phase b.body.phase

-- each turn of an actor, from its first one on, has one result, except for one that is going on
abbrev pub HasTurns : ℕ → WorldActor → Type 0
HasTurns first b = length b.results + (if is_idle b.body.phase then 0 else 1) + first ≡ length b.begun + 1

-- the actors of a base still exist, and each actor has its turns, and dispatches what it has begun last
pub record HaveTurns (base w : World) : Type 0 where
  pub long : length base.actors ≤ length w.actors
  pub each : (a : ℕ) (b : WorldActor) → slice_get w.actors a ≡ Some b
      → HasTurns (first_turn (slice_get base.actors a)) b
  pub starts : (a : ℕ) (b : WorldActor) → slice_get w.actors a ≡ Some b → StartsLast (slice_get base.actors a) b

-- ---- images

-- the settings are within their limits
pub record AreSettings (s : Settings) : Type 0 where
  pub some_capacity : 1 ≤ s.capacity
  pub few_messages : s.capacity ≤ 1024
  pub some_history : 1 ≤ s.history
  pub few_items : s.history ≤ 1000000

-- the settings of an image
abbrev pub settings_of : ImageView → Settings
settings_of i = record { capacity = i.capacity; history = i.most_items }

-- what holds of every image: it began with a world, its history is lawful from there and no longer than its limit, its settings are
-- within theirs, its world has the invariant of worlds, each turn has its message and its result, there are at most 65,536 actors, and
-- no more posts and steps are counted than an image counts
pub record IsLawful (i : ImageView) : Type 0 where
  pub base : IsWorld (constants i) i.base
  pub senders : InSendingOrder i.base
  pub lawful : replay (constants i) i.base i.history ≡ Some (world i)
  pub standing : IsWorld (constants i) (world i)
  pub turns : HaveTurns i.base (world i)
  pub numbers : AreSettings (settings_of i)
  pub few_items : length i.history ≤ i.most_items
  pub few_actors : length (world i).actors ≤ 65536
  pub counted : CanBeCounted (counts_of i)
