-- Values as JSON values.
use Rattle.std.specs.Prelude.{ℕ, List, codes}
use Rattle.serde_json.specs.Data.{Data, null, boolean, number, string}
use Rattle.serde_json.specs.Find.{of_integer}
use Rattle.st_classes.specs.declared.values.Value.{Value}
use Rattle.st_classes.specs.declared.values.Value.TheVariants as value
use Rattle.st_classes.specs.declared.edits.Edit.{Edit}
use Rattle.st_image.specs.Loading.{class_text, selector_text}
use Rattle.st_wire.specs.Replies.{only, whole}
use Rattle.st_file.specs.ListJson.{each}

-- a value, as image files and answers have it
abbrev pub value_json : List (List ℕ) → List Edit → Value → Data
value_json names edits (value.Int z) = number (of_integer z)
value_json names edits (value.Bool b) = boolean b
value_json names edits value.Nil = null
value_json names edits (value.Sym s) = only (codes "sym") (string (selector_text names s))
value_json names edits (value.Class c) = only (codes "class") (string (class_text edits c))
value_json names edits (value.Actor a) = only (codes "ref") (whole a.0)
value_json names edits (value.Local n) = only (codes "local") (whole n)

-- values, in their order
abbrev pub values_json : List (List ℕ) → List Edit → List Value → Data
values_json names edits = each (value_json names edits)
