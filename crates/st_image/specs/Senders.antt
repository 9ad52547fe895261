-- The numbers that senders, clients and actors, give to their messages.
-- Each sender's messages are accepted and begun in the order of their numbers, and every message once.
use Rattle.std.specs.Prelude.{◌≡◌, ◌<◌, ◌≤◌, ℕ, Option, Some, None, slice_get}
use Rattle.st_mailbox.specs.declared.messages.Message.{Message}
use Rattle.st_mailbox.specs.declared.messages.Sender.{Sender}
use Rattle.st_mailbox.specs.declared.messages.Sender.TheVariants.{Client, Actor}
use Rattle.st_image.specs.Worlds.{World, WorldActor, client_last}

-- the last number of an actor; 0 if there is none
abbrev pub actor_last : Option WorldActor → ℕ
actor_last None = 0
actor_last (Some b) = b.last

-- the last number of a sender
abbrev pub last_number : World → Sender → ℕ
last_number w (Client s) = client_last s w.clients
last_number w (Actor a) = actor_last (slice_get w.actors a.0)

-- a message is at a place, from 0, among those that an actor's mailbox accepted
abbrev pub IsAccepted : World → ℕ → ℕ → Message → Type 0
IsAccepted w a place m = (b : WorldActor) × (slice_get w.actors a ≡ Some b) × (slice_get b.accepted place ≡ Some m)

-- a message is at a place, from 0, among those that an actor has begun
abbrev pub HasBegun : World → ℕ → ℕ → Message → Type 0
HasBegun w a place m = (b : WorldActor) × (slice_get w.actors a ≡ Some b) × (slice_get b.begun place ≡ Some m)

-- each sender's messages are accepted in sending order: of two messages of one sender in one mailbox the later has the greater number;
-- each number is from 1 to the sender's last; and two messages of one sender with the same number are in one mailbox
pub record InSendingOrder (w : World) : Type 0 where
  pub rising : (a i j : ℕ) (m n : Message) →
      IsAccepted w a i m → IsAccepted w a j n → m.sender ≡ n.sender → i < j → m.seq < n.seq
  pub positive : (a i : ℕ) (m : Message) → IsAccepted w a i m → 1 ≤ m.seq
  pub bounded : (a i : ℕ) (m : Message) → IsAccepted w a i m → m.seq ≤ last_number w m.sender
  pub apart : (a c i j : ℕ) (m n : Message) →
      IsAccepted w a i m → IsAccepted w c j n → m.sender ≡ n.sender → m.seq ≡ n.seq → a ≡ c

-- every message is accepted once: its sender and its number determine the mailbox and the place
abbrev pub AcceptedOnce : World → Type 0
AcceptedOnce w = (a c i j : ℕ) (m n : Message) →
    IsAccepted w a i m → IsAccepted w c j n → m.sender ≡ n.sender → m.seq ≡ n.seq → (a ≡ c) × (i ≡ j)

-- each sender's messages are begun in sending order: of two messages of one sender that an actor has begun the later has the greater
-- number; and every message is begun once: its sender and its number determine the actor and the place
pub record BegunInSendingOrder (w : World) : Type 0 where
  pub rising : (a i j : ℕ) (m n : Message) →
      HasBegun w a i m → HasBegun w a j n → m.sender ≡ n.sender → i < j → m.seq < n.seq
  pub once : (a c i j : ℕ) (m n : Message) →
      HasBegun w a i m → HasBegun w c j n → m.sender ≡ n.sender → m.seq ≡ n.seq → (a ≡ c) × (i ≡ j)
