-- What the tokens of a line start with.
use Rattle.std.specs.Prelude.{◌≡◌, ℕ, List, length, Some}
use Rattle.json.specs.Token.{Token}
use Rattle.json.specs.Json as json
use Rattle.serde_json.specs.Data.{Data, Items, Members, no_members}
use Rattle.serde_json.specs.Read.{of_json, of_items, of_members, converted}

-- a value, in which arrays and objects nest at most this deep, followed by `rest`
abbrev pub BeginsWith : ℕ → List Token → Data → List Token → Type 0
BeginsWith depth tokens d rest = converted of_json (json.value depth tokens) ≡ Some (d, rest)

-- the rest of an array after its opening bracket
abbrev pub BeginsWithItems : ℕ → List Token → Items → List Token → Type 0
BeginsWithItems depth tokens ds rest = converted of_items (json.items (json.value depth) (length tokens) tokens) ≡ Some (ds, rest)

-- the rest of an object after its opening brace
abbrev pub BeginsWithMembers : ℕ → List Token → Members → List Token → Type 0
BeginsWithMembers depth tokens ms rest =
    converted (λ js. of_members js no_members) (json.members (json.value depth) (length tokens) tokens) ≡ Some (ms, rest)
