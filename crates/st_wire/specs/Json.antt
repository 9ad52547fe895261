-- JSON values, as replies and image files are made of them.
use Rattle.std.specs.Prelude.{ℕ, ◌&&◌, Bool, true, false, List, codes}
use Rattle.std.specs.Ordering.{nat_cmp, match_ordering}
use Rattle.std.specs.Cmp.Lexicographic.{slice_cmp}
use Rattle.serde_json.specs.Data.{Data, null, boolean, number, string, array, object, unsigned, Items, no_items, item, Members, no_members, member}

-- a whole number
abbrev pub whole : ℕ → Data
whole n = number (unsigned n)

-- an object with one key
abbrev pub only : List ℕ → Data → Data
only key d = object (member key d no_members)

-- the value of a reply that is not a refusal
abbrev pub ok : Data → Data
ok = only (codes "ok")

-- ---- keys in byte order

-- a key comes before the next one, if there is one
abbrev pub comes_first : List ℕ → Members → Bool
comes_first k no_members = true
comes_first k (member l d ms) = match_ordering (slice_cmp nat_cmp k l) true false false

-- in each object, at every level, the keys are in byte order
abbrev mutual
  pub keys_rise : Data → Bool
  keys_rise null = true
  keys_rise (boolean b) = true
  keys_rise (number n) = true
  keys_rise (string s) = true
  keys_rise (array ds) = keys_rise_in_items ds
  keys_rise (object ms) = keys_rise_in_members ms

  pub keys_rise_in_items : Items → Bool
  keys_rise_in_items no_items = true
  keys_rise_in_items (item d ds) = keys_rise d && keys_rise_in_items ds

  pub keys_rise_in_members : Members → Bool
  keys_rise_in_members no_members = true
  keys_rise_in_members (member k d ms) = keys_rise d && comes_first k ms && keys_rise_in_members ms
