-- A mailbox: the waiting messages, the capacity, and whether it is open.
use Rattle.std.specs.Prelude.{ℕ, List, [], ◌∷◌, ◌++◌, length, Bool, true, not, Option, nat_le}
use Rattle.st_classes.specs.declared.refusals.Refusal.{Refusal}
use Rattle.st_classes.specs.declared.refusals.Refusal.TheVariants.{Closed, Full}
use Rattle.st_classes.specs.Refusals.{Rule, first_of}
use Rattle.st_mailbox.specs.declared.messages.Message.{Message}

-- the messages in the order in which they came
pub record BoxView : Type 0 where
  pub items : List Message
  pub capacity : ℕ
  pub is_open : Bool

-- a new mailbox
abbrev pub empty_box : ℕ → BoxView
empty_box capacity = record { items = []; capacity = capacity; is_open = true }

-- the refusals of a message, in their order, by whether the mailbox is open, its capacity, and its number of messages
abbrev pub box_rules : Bool → ℕ → ℕ → List Rule
box_rules is_open capacity count = (not is_open, Closed) ∷ (nat_le capacity count, Full) ∷ []

-- why a mailbox refuses a message, if it does
abbrev pub box_refusal : BoxView → Option Refusal
box_refusal b = first_of (box_rules b.is_open b.capacity (length b.items))

-- a message is appended
abbrev pub with_message : Message → BoxView → BoxView
with_message m b = record b { items = b.items ++ m ∷ [] }
