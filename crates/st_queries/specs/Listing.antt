-- Lists in answers.
use Rattle.std.specs.Prelude.{ℕ, Option}
use Rattle.std.specs.List.{filter_map, range_with_len}
use Rattle.serde_json.specs.Data.{Data, array}
use Rattle.serde_json.specs.View.{items_of}

-- what is told of n numbers, from the first one on, in their order; some have nothing to tell
abbrev pub listed : (ℕ → Option Data) → ℕ → ℕ → Data
listed row first n = array (items_of (filter_map row (range_with_len first n)))
