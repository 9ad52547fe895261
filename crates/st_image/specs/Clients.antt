-- The last numbers of clients: as a list by the clients' numbers, and along a history.
use Rattle.std.specs.Prelude.{◌≡◌, ◌==◌, ℕ, suc, List, [], ◌∷◌, slice_index_or, if◌then◌else◌}
use Rattle.st_mailbox.specs.declared.messages.Sender.{Sender}
use Rattle.st_mailbox.specs.declared.messages.Sender.TheVariants.{Client, Actor}
use Rattle.st_image.specs.declared.history.Item.{Item}
use Rattle.st_image.specs.declared.history.Item.TheVariants.{Posted}
use Rattle.st_image.specs.Worlds.{client_last, put_number}

-- the last number of a client; 0 past the end of the list
abbrev pub number_of : List ℕ → ℕ → ℕ
number_of numbers s = slice_index_or numbers s 0

-- the clients that sent a message, each with its last number; the list has the last numbers of all clients from a first one on
abbrev pub clients_from : ℕ → List ℕ → List (ℕ × ℕ)
clients_from s [] = []
clients_from s (n ∷ ns) = if n == 0 then clients_from (suc s) ns else (s, n) ∷ clients_from (suc s) ns

-- the numbers of clients after a message of a sender
abbrev pub clients_after_post : Sender → ℕ → List (ℕ × ℕ) → List (ℕ × ℕ)
clients_after_post (Client s) n ps = put_number s n ps
clients_after_post (Actor a) n ps = ps

-- after an item: only a client's post changes them
abbrev pub clients_after : Item → List (ℕ × ℕ) → List (ℕ × ℕ)
clients_after (Posted a m) ps = clients_after_post m.sender m.seq ps
clients_after _ ps = ps

-- after the items of a history
abbrev pub clients_through : List Item → List (ℕ × ℕ) → List (ℕ × ℕ)
clients_through [] ps = ps
clients_through (i ∷ is) ps = clients_through is (clients_after i ps)

-- a list has the last numbers to which a history leads
abbrev pub KeepsClients : List ℕ → List (ℕ × ℕ) → List Item → Type 0
KeepsClients numbers base history = (s : ℕ) → client_last s (clients_through history base) ≡ number_of numbers s
