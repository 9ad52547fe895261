-- How methods are named.
use Rattle.std.specs.Prelude.{ℕ, List, codes}
use Rattle.serde_json.specs.Data.{Data, string, object, member, no_members}
use Rattle.st_classes.specs.declared.values.ClassId.{ClassId}
use Rattle.st_classes.specs.declared.values.Selector.{Selector}
use Rattle.st_classes.specs.declared.edits.Edit.{Edit}
use Rattle.st_image.specs.Loading.{class_text, selector_text}

-- a method, by its class and its selector
abbrev pub method_named : List (List ℕ) → List Edit → ClassId → Selector → Data
method_named names edits c s = object
    (member (codes "class") (string (class_text edits c))
    (member (codes "selector") (string (selector_text names s))
    no_members))
