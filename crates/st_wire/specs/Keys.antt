-- Which keys a JSON value has.
use Rattle.std.specs.Prelude.{ℕ, ◌==◌, ◌&&◌, Bool, true, List, [], ◌∷◌, length, is_some, if◌then◌else◌, Option, None}
use Rattle.serde_json.specs.Data.{Data}
use Rattle.serde_json.specs.Find.{get}
use Rattle.st_wire.specs.Fields.{size}

-- a value has all of these keys
abbrev pub has_all : List (List ℕ) → Data → Bool
has_all [] d = true
has_all (key ∷ keys) d = is_some (get key d) && has_all keys d

-- a value is an object with exactly these keys, which differ: it has all of them, and as many keys as there are
abbrev pub has_just : List (List ℕ) → Data → Bool
has_just keys d = size d == length keys && has_all keys d

-- what was found, if the object has exactly these keys
abbrev pub of_keys : {T : Type 0} → List (List ℕ) → Data → Option T → Option T
of_keys keys d found = if has_just keys d then found else None
