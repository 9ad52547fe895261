-- Bodies whose next step dispatches the message of a turn.
use Rattle.std.specs.Prelude.{◌≡◌, ◌⊎◌, List, [], ◌∷◌, ◌++◌, false, Option, Some, None}
use Rattle.std.specs.List.{list_any}
use Rattle.st_classes.specs.declared.values.Selector.{Selector}
use Rattle.st_classes.specs.declared.values.Value.{Value}
use Rattle.st_turn.specs.declared.body.Phase.{Phase}
use Rattle.st_turn.specs.declared.body.Phase.TheVariants.{Start}
use Rattle.st_mailbox.specs.declared.messages.Message.{Message}
use Rattle.st_image.specs.Worlds.{WorldActor}
use Rattle.st_image.specs.Replay.{is_local}

-- no argument of a message that is yet to be dispatched is an object of the actor's own
abbrev pub StartsWithoutLocals : Phase → Type 0
StartsWithoutLocals (Start s args) = list_any is_local args ≡ false
StartsWithoutLocals _ = Unit {0}

-- what an actor has begun; nothing if it does not exist
abbrev pub begun_by : Option WorldActor → List Message
begun_by None = []
begun_by (Some b) = b.begun

-- the last of the messages has this selector and these arguments
pub record LastSays (messages : List Message) (s : Selector) (args : List Value) : Type 0 where
  pub earlier : List Message
  pub last : Message
  pub messages_are : messages ≡ earlier ++ last ∷ []
  pub selector_is : last.selector ≡ s
  pub args_are : last.args ≡ args

-- an actor still has its old body
abbrev pub HasBodyOf : Option WorldActor → WorldActor → Type 0
HasBodyOf old b = (c : WorldActor) × (old ≡ Some c) × (b.body ≡ c.body)

-- a message that an actor is yet to dispatch is the last one that it has begun since the base; or it has begun none since, and its body
-- is that of the base
pub record StartsLast (base : Option WorldActor) (b : WorldActor) : Type 0 where
  pub since : List Message
  pub begun : b.begun ≡ begun_by base ++ since
  pub starts : (s : Selector) (args : List Value) → b.body.phase ≡ Start s args
      → LastSays since s args ⊎ ((since ≡ []) × HasBodyOf base b)
