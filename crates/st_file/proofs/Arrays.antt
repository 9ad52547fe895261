-- How many items an array has.
use Rattle.std.proofs.Common.{◌≡◌, Some, sym, ap}
use Rattle.serde_json.specs.Data.{Data, null, boolean, number, string, array, object, Items}
use Rattle.serde_json.specs.Events.{items_len}
use Rattle.serde_json.specs.Find.{as_array}
use Rattle.st_file.specs.Shapes.{count}

pub count-array : (d : Data) (ds : Items) → Some ds ≡ as_array d → count d ≡ items_len ds
count-array null ds e = cc
count-array (boolean b) ds e = cc
count-array (number n) ds e = cc
count-array (string s) ds e = cc
count-array (array items) ds e = let same : ds ≡ items = cc in ap items_len (sym same)
count-array (object ms) ds e = cc
