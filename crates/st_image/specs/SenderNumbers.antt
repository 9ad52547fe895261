-- The numbers that senders gave to pending messages, by the parts of actors.
use Rattle.std.specs.Prelude.{◌≡◌, ◌<◌, ◌≤◌, ℕ, Bool, List, Option, Some, None, take, slice_get, All, Decides}
use Rattle.std.specs.Ordering.{nat_cmp, ordering_then}
use Rattle.std.specs.BTreeSet.{contains}
use Rattle.std.specs.declared.cmp.Ordering.{Ordering}
use Rattle.st_mailbox.specs.declared.messages.Message.{Message}
use Rattle.st_mailbox.specs.declared.messages.Sender.{Sender}
use Rattle.st_mailbox.specs.declared.messages.Sender.TheVariants.{Client, Actor}
use Rattle.st_image.specs.declared.actor_part.ActorPart.{ActorPart}
use Rattle.st_image.specs.declared.sequence_numbers.seen.SeenNumbers.{SeenNumbers}
use Rattle.st_image.specs.Clients.{number_of}

-- Q holds of each item of a list, with the items before it
abbrev pub AfterOthers : {X : Type 0} → (List X → X → Type 0) → List X → Type 0
AfterOthers {X} Q xs = (k : ℕ) (x : X) → slice_get xs k ≡ Some x → Q (take k xs) x

-- ---- senders

-- a sender is a client, or one of this many actors
abbrev pub IsSenderAmong : ℕ → Sender → Type 0
IsSenderAmong actors (Client s) = Unit {0}
IsSenderAmong actors (Actor a) = a.0 < actors

-- each message in the mailbox of an actor has such a sender
abbrev pub HasSenders : ℕ → ActorPart → Type 0
HasSenders actors p = All (λ m. IsSenderAmong actors m.sender) p.pending

-- ---- in one mailbox

-- if two messages are of one sender, the later one has the greater number
abbrev pub IsBelow : Message → Message → Type 0
IsBelow later earlier = earlier.sender ≡ later.sender → earlier.seq < later.seq

-- a message has a greater number than each earlier one of its sender
abbrev pub IsAbove : List Message → Message → Type 0
IsAbove earlier later = All (IsBelow later) earlier

-- the last number of an actor; 0 if there is none
abbrev pub part_last : Option ActorPart → ℕ
part_last None = 0
part_last (Some p) = p.last

-- the last number of a sender, by the last numbers of clients and the parts of actors
abbrev pub last_in : List ℕ → List ActorPart → Sender → ℕ
last_in numbers parts (Client s) = number_of numbers s
last_in numbers parts (Actor a) = part_last (slice_get parts a.0)

-- the number of a message is from 1 to its sender's last
abbrev pub IsNumbered : List ℕ → List ActorPart → Message → Type 0
IsNumbered numbers parts m = (1 ≤ m.seq) × (m.seq ≤ last_in numbers parts m.sender)

-- the numbers of each sender rise in the mailbox of an actor, from 1 to the sender's last at most
pub record IsMailed (numbers : List ℕ) (parts : List ActorPart) (p : ActorPart) : Type 0 where
  pub rising : AfterOthers IsAbove p.pending
  pub numbered : All (IsNumbered numbers parts) p.pending

-- ---- in all mailboxes

-- one of the messages has this sender and this number
abbrev pub IsIn : List Message → Sender → ℕ → Type 0
IsIn ms s n = (i : ℕ) × (m : Message) × (slice_get ms i ≡ Some m) × (m.sender ≡ s) × (m.seq ≡ n)

-- a message in some actor's mailbox has this sender and this number
abbrev pub IsSent : List ActorPart → Sender → ℕ → Type 0
IsSent parts s n = (a : ℕ) × (p : ActorPart) × (slice_get parts a ≡ Some p) × IsIn p.pending s n

-- no message of an actor has the sender and the number of a message of an earlier actor
abbrev pub IsApart : List ActorPart → ActorPart → Type 0
IsApart earlier p = All (λ m. IsSent earlier m.sender m.seq → ⊥) p.pending

-- orders by the sender, then by the number
abbrev pub number_cmp : ℕ × ℕ → ℕ × ℕ → Ordering
number_cmp a b = ordering_then (nat_cmp a.0 b.0) (nat_cmp a.1 b.1)

-- this number of a sender was seen
abbrev pub has : SeenNumbers → Sender → ℕ → Bool
has seen (Client s) n = contains number_cmp seen.of_clients (s, n)
has seen (Actor a) n = contains number_cmp seen.of_actors (a.0, n)

-- exactly the numbers for which P holds were seen
abbrev pub AreSeen : SeenNumbers → (Sender → ℕ → Type 0) → Type 0
AreSeen seen P = (s : Sender) (n : ℕ) → Decides (has seen s n) (P s n)
