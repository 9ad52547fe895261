-- Values of replies: their numbers are whole, and the keys of their objects are in byte order at every level.
use Rattle.std.specs.Prelude.{◌≡◌, false, true}
use Rattle.serde_json.specs.Data.{Data, Items, Members}
use Rattle.serde_json.specs.Written.{has_float, items_have_float, members_have_float}
use Rattle.st_wire.specs.Json.{keys_rise, keys_rise_in_items, keys_rise_in_members}

-- a value
pub record IsTidy (d : Data) : Type 0 where
  pub whole : has_float d ≡ false
  pub ordered : keys_rise d ≡ true

-- the items of a list
pub record AreTidyItems (ds : Items) : Type 0 where
  pub whole : items_have_float ds ≡ false
  pub ordered : keys_rise_in_items ds ≡ true

-- the members of an object
pub record AreTidyMembers (ms : Members) : Type 0 where
  pub whole : members_have_float ms ≡ false
  pub ordered : keys_rise_in_members ms ≡ true
