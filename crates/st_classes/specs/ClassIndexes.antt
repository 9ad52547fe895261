-- Classes by name.
use Rattle.std.specs.Prelude.{ℕ, List, Option}
use Rattle.std.specs.Map.{lookup}
use Rattle.std.specs.Str.{bytes_eq}
use Rattle.std.specs.declared.vec.Vec.{Vec}
use Rattle.st_classes.specs.declared.values.ClassId.{ClassId}

-- names with their classes
abbrev pub Naming : Type 0
Naming = List (List ℕ × ClassId)

-- the class with a given name
abbrev pub named_in : Naming → List ℕ → Option ClassId
named_in naming name = lookup (bytes_eq name) naming

-- an entry of the map, with its key as a text
abbrev pub by_text : {Z : Type 0} → Vec ℕ Z × ClassId → List ℕ × ClassId
by_text e = (e.0.items, e.1)
