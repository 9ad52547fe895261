-- The fields of a command's object, by key.
use Rattle.std.specs.Prelude.{ℕ, ◌^◌, ◌-◌, ◌==◌, ◌&&◌, List, [], ◌∷◌, codes, nat_le, if◌then◌else◌, Option, Some, None, option_map, option_and_then}
use Rattle.serde_json.specs.Data.{Data, null, boolean, number, string, array, object, Items, no_items, item}
use Rattle.serde_json.specs.Events.{members_len}
use Rattle.serde_json.specs.Find.{get, as_str, as_number, as_array, as_u64, as_i64}
use Rattle.st_classes.specs.declared.values.ActorId.{ActorId}
use Rattle.st_wire.specs.declared.commands.Argument.{Argument}
use Rattle.st_wire.specs.declared.commands.Argument.TheVariants.{Int, Bool as Boolean, Nil, Symbol, Class, Actor}

-- the number of keys of an object; 0 for any other value
abbrev pub size : Data → ℕ
size (object members) = members_len members
size null = 0
size (boolean b) = 0
size (number n) = 0
size (string s) = 0
size (array items) = 0

-- a text
abbrev pub text : Data → Option (List ℕ)
text = as_str

-- the text at a key
abbrev pub text_at : List ℕ → Data → Option (List ℕ)
text_at key d = option_and_then text (get key d)

-- an item and a list in one list, if both exist
abbrev pub cons_of : {T : Type 0} → Option T → Option (List T) → Option (List T)
cons_of (Some one) (Some rest) = Some (one ∷ rest)
cons_of None rest = None
cons_of (Some one) None = None

-- the results of f on the items of an array, if each has one
abbrev pub each_of : {T : Type 0} → (Data → Option T) → Items → Option (List T)
each_of f no_items = Some []
each_of f (item d ds) = cons_of (f d) (each_of f ds)

-- the items of the array at a key, each read by f
abbrev pub list_at : {T : Type 0} → (Data → Option T) → List ℕ → Data → Option (List T)
list_at f key d = option_and_then (each_of f) (option_and_then as_array (get key d))

-- the texts at a key
abbrev pub texts_at : List ℕ → Data → Option (List (List ℕ))
texts_at = list_at text

-- a number, if it is in its range
abbrev pub within : ℕ → ℕ → Option ℕ → Option ℕ
within least most None = None
within least most (Some n) = if nat_le least n && nat_le n most then Some n else None

-- a whole number in a range
abbrev pub whole_at : List ℕ → ℕ → ℕ → Data → Option ℕ
whole_at key least most d = within least most (option_and_then as_u64 (option_and_then as_number (get key d)))

-- an actor by its number
abbrev pub actor : ℕ → ActorId
actor n = record { 0 = n }

-- the actor at a key
abbrev pub actor_at : List ℕ → Data → Option ActorId
actor_at key d = option_map actor (whole_at key 0 (2 ^ 32 - 1) d)

-- the number of a client at a key, at most 65,535
abbrev pub sender_at : List ℕ → Data → Option ℕ
sender_at key = whole_at key 0 65535

-- a number of 64 bits at a key
abbrev pub number_at : List ℕ → Data → Option ℕ
number_at key = whole_at key 0 (2 ^ 64 - 1)

-- a number of quanta at a key, from 1 to 1,000,000
abbrev pub quanta_at : List ℕ → Data → Option ℕ
quanta_at key = whole_at key 1 1000000

-- `{"ref":n}`, `{"sym":"at:put:"}` or `{"class":"Counter"}`, by which of these keys the object has
abbrev pub named_by : Data → Option Data → Option Data → Option Argument
named_by d (Some r) sym = option_map Actor (actor_at (codes "ref") d)
named_by d None (Some s) = option_map Symbol (text_at (codes "sym") d)
named_by d None None = option_map Class (text_at (codes "class") d)

-- an argument that is an object: a reference, a symbol or a class
abbrev pub named : Data → Option Argument
named d = if size d == 1 then named_by d (get (codes "ref") d) (get (codes "sym") d) else None

-- the argument that a value is
abbrev pub argument : Data → Option Argument
argument null = Some Nil
argument (boolean b) = Some (Boolean b)
argument (number n) = option_map Int (as_i64 n)
argument (string s) = None
argument (array items) = None
argument (object members) = named (object members)

-- the arguments at a key
abbrev pub arguments_at : List ℕ → Data → Option (List Argument)
arguments_at = list_at argument
