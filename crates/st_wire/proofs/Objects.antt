-- How many keys an object has.
use Rattle.std.proofs.Common.{◌≡◌, Some, sym, ap}
use Rattle.serde_json.specs.Data.{Data, null, boolean, number, string, array, object, Members}
use Rattle.serde_json.specs.Events.{members_len}
use Rattle.serde_json.specs.Find.{as_object}
use Rattle.st_wire.specs.Fields.{size}

pub size-object : (d : Data) (ms : Members) → Some ms ≡ as_object d → size d ≡ members_len ms
size-object null ms e = cc
size-object (boolean b) ms e = cc
size-object (number n) ms e = cc
size-object (string s) ms e = cc
size-object (array items) ms e = cc
size-object (object members) ms e = let same : ms ≡ members = cc in ap members_len (sym same)
