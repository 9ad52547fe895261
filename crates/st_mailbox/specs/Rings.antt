-- A mailbox over a ring, which it holds until it is closed and empty.
use Rattle.std.specs.Prelude.{◌≡◌, ℕ, ◌<◌, ◌≤◌, ◌==◌, List, [], length, Bool, true, false, ◌⊎◌, if◌then◌else◌, Option, Some, None}
use Rattle.circular_buffer.specs.Buffer.{Buffer}
use Rattle.st_mailbox.specs.declared.messages.Message.{Message}

-- the waiting messages: those in the ring, or none without a ring
abbrev pub waiting : Option (Buffer Message) → List Message
waiting None = []
waiting (Some r) = r.items

-- the ring's capacity is the mailbox's; there is a ring exactly while the mailbox is open or a message waits
abbrev pub HasPlaces : Option (Buffer Message) → ℕ → Bool → Type 0
HasPlaces None capacity is_open = is_open ≡ false
HasPlaces (Some r) capacity is_open = (r.capacity ≡ capacity) × (length r.items ≤ capacity) × ((is_open ≡ true) ⊎ (0 < length r.items))

-- a ring without messages is freed
abbrev pub unless_empty : Option (Buffer Message) → Option (Buffer Message)
unless_empty None = None
unless_empty (Some r) = (if length r.items == 0 then None else Some r)
