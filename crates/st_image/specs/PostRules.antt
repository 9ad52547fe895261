-- When a message is accepted.
use Rattle.std.specs.Prelude.{option_map, ℕ, ◌&&◌, List, [], ◌∷◌, length, Bool, true, not, Option, Some, None, nat_le, slice_get}
use Rattle.std.specs.List.{list_all}
use Rattle.st_classes.specs.declared.values.Selector.{Selector}
use Rattle.st_classes.specs.declared.values.Value.{Value}
use Rattle.st_classes.specs.declared.refusals.Refusal.TheVariants.{UnknownActor, BadArguments, Old}
use Rattle.st_classes.specs.Refusals.{Rule}
use Rattle.st_classes.specs.Classes.{class_count}
use Rattle.st_classes.specs.MethodSuits.{arity_at, is_number, is_there}
use Rattle.st_mailbox.specs.Mailboxes.{box_rules}
use Rattle.st_mailbox.specs.declared.messages.Message.{Message}
use Rattle.st_mailbox.specs.declared.messages.Sender.{Sender}
use Rattle.st_mailbox.specs.declared.messages.Sender.TheVariants.{Client, Actor as Acting}
use Rattle.st_image.specs.Worlds.{World, WorldActor, client_last, pending}

-- what an argument of a message names exists, and is not an object
abbrev pub argument_fits : List (List ℕ) → ℕ → ℕ → Value → Bool
argument_fits names classes actors = is_there names classes actors 0

-- a client's message, with the client's number for it
abbrev pub from_client : ℕ → ℕ → Selector → List Value → Message
from_client sender seq selector args = record { sender = Client sender; seq = seq; selector = selector; args = args }

-- the selector exists and takes this many arguments, and each of them fits
abbrev pub message_fits : List (List ℕ) → ℕ → ℕ → Message → Bool
message_fits names classes actors m = is_number (arity_at names m.selector) (length m.args)
    && list_all (argument_fits names classes actors) m.args

-- a message fits the world's classes and actors
abbrev pub message_suits : List (List ℕ) → World → Message → Bool
message_suits names w m = message_fits names (class_count w.edits) (length w.actors) m

-- a number that is not above its sender's last is old; a sender that does not exist sends nothing
abbrev pub old_rule : Option ℕ → ℕ → Rule
old_rule None n = (true, Old 0)
old_rule (Some last) n = (nat_le n last, Old last)

-- the last number of an actor, if it exists
abbrev pub last_at : Option WorldActor → Option ℕ
last_at o = option_map (λ b. b.last) o

-- the last number of a sender, if it exists; that of a client is 0 at first
abbrev pub sender_last : World → Sender → Option ℕ
sender_last w (Client s) = Some (client_last s w.clients)
sender_last w (Acting a) = last_at (slice_get w.actors a.0)

-- the numbers of a sender rise
abbrev pub number_rule : World → Sender → ℕ → Rule
number_rule w s n = old_rule (sender_last w s) n

-- the refusals of a post, in their order
abbrev pub post_rules : List (List ℕ) → World → Option WorldActor → Message → List Rule
post_rules names w None m = (true, UnknownActor) ∷ []
post_rules names w (Some b) m =
    (not (message_suits names w m), BadArguments)
    ∷ number_rule w m.sender m.seq
    ∷ box_rules b.is_open b.capacity (length (pending b))

-- a sender is a client
abbrev pub IsClients : Sender → Type 0
IsClients (Client s) = Unit {0}
IsClients (Acting a) = ⊥
