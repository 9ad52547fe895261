-- Lists as JSON values.
use Rattle.std.specs.Prelude.{ℕ, List, map}
use Rattle.serde_json.specs.Data.{Data, array, string}
use Rattle.serde_json.specs.View.{items_of}

-- the JSON value of each item, in their order
abbrev pub each : {T : Type 0} → (T → Data) → List T → Data
each json xs = array (items_of (map json xs))

-- texts, in their order
abbrev pub texts : List (List ℕ) → Data
texts = each string
