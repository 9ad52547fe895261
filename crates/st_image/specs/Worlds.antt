-- The world of an image: its class table, its actors with all that they accepted, and its clients.
use Rattle.std.specs.Prelude.{ℕ, ◌&&◌, List, [], length, drop, Bool, Option, Some, None, nat_le, nat_lt, ◌∷◌, ◌==◌, if◌then◌else◌, slice_get, slice_set}
use Rattle.st_classes.specs.declared.values.ClassId.{ClassId}
use Rattle.st_classes.specs.declared.values.ActorId.{ActorId}
use Rattle.st_classes.specs.declared.edits.Edit.{Edit}
use Rattle.st_turn.specs.declared.body.Body.{Body}
use Rattle.st_turn.specs.declared.body.Outcome.{Outcome}
use Rattle.st_mailbox.specs.Mailboxes.{BoxView}
use Rattle.st_mailbox.specs.declared.messages.Message.{Message}

-- the constants of a run: the names, and the capacity of new actors' mailboxes
pub record Constants : Type 0 where
  pub names : List (List ℕ)
  pub capacity : ℕ

-- an actor (Agha 1986): its class, its mailbox, its body, its last number as a sender, every message that it accepted
-- and every one that it began, and how its turns ended
pub record WorldActor : Type 0 where
  pub class : ClassId
  pub capacity : ℕ
  pub is_open : Bool
  pub body : Body
  pub last : ℕ
  pub accepted : List Message
  pub begun : List Message
  pub results : List Outcome

-- the edits; the actors, by their numbers; and the clients that sent a message, in rising order, each with its last number
pub record World : Type 0 where
  pub edits : List Edit
  pub actors : List WorldActor
  pub clients : List (ℕ × ℕ)

-- the capacity of a mailbox: from 1 to 1,024 messages
abbrev pub is_capacity : ℕ → Bool
is_capacity n = nat_le 1 n && nat_le n 1024

-- the messages that an actor accepted and has not begun
abbrev pub pending : WorldActor → List Message
pending b = drop (length b.begun) b.accepted

-- the mailbox of an actor
abbrev pub mailbox_of : WorldActor → BoxView
mailbox_of b = record { items = pending b; capacity = b.capacity; is_open = b.is_open }

-- the world of a new image
abbrev pub start : World
start = record { edits = []; actors = []; clients = [] }

-- the last number of a client; 0 if it sent nothing
abbrev pub client_last : ℕ → List (ℕ × ℕ) → ℕ
client_last s [] = 0
client_last s (p ∷ ps) = if s == p.0 then p.1 else client_last s ps

-- a client's number, in place of its old one, or inserted so that the list stays rising
abbrev pub put_number : ℕ → ℕ → List (ℕ × ℕ) → List (ℕ × ℕ)
put_number s n [] = (s, n) ∷ []
put_number s n (p ∷ ps) =
    if s == p.0 then (s, n) ∷ ps
    else (if nat_lt s p.0 then (s, n) ∷ p ∷ ps
    else p ∷ put_number s n ps)

-- a list with the item at a place changed, if there is one
abbrev pub changed : {X : Type 0} → (X → X) → ℕ → List X → Option X → List X
changed f place xs None = xs
changed f place xs (Some x) = slice_set xs place (f x)

-- the item at a place is changed, if there is one
abbrev pub change_at : {X : Type 0} → (X → X) → ℕ → List X → List X
change_at f place xs = changed f place xs (slice_get xs place)

-- the world with the actor at a number changed
abbrev pub change : (WorldActor → WorldActor) → ActorId → World → World
change f a w = record w { actors = change_at f a.0 w.actors }
