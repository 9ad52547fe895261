-- Edits as JSON values.
use Rattle.std.specs.Prelude.{ℕ, List, codes}
use Rattle.serde_json.specs.Data.{Data, string, object, member, no_members}
use Rattle.st_classes.specs.declared.values.ClassId.{ClassId}
use Rattle.st_classes.specs.declared.values.Selector.{Selector}
use Rattle.st_classes.specs.declared.edits.Edit.{Edit}
use Rattle.st_classes.specs.declared.edits.Edit.TheVariants.{Define, Install, Remove, Reparent}
use Rattle.st_image.specs.Loading.{class_text, selector_text}
use Rattle.st_wire.specs.Replies.{only}
use Rattle.st_file.specs.ListJson.{texts}

-- a class was defined
abbrev pub define_json : List Edit → List ℕ → ClassId → List (List ℕ) → Data
define_json edits name parent slots = only (codes "define") (object
    (member (codes "name") (string name)
    (member (codes "slots") (texts slots)
    (member (codes "super") (string (class_text edits parent))
    no_members))))

-- a source was installed in a class
abbrev pub install_json : List Edit → ClassId → List ℕ → Data
install_json edits c source = only (codes "install") (object
    (member (codes "class") (string (class_text edits c))
    (member (codes "source") (string source)
    no_members)))

-- a class's own method was removed
abbrev pub remove_json : List (List ℕ) → List Edit → ClassId → Selector → Data
remove_json names edits c s = only (codes "remove") (object
    (member (codes "class") (string (class_text edits c))
    (member (codes "selector") (string (selector_text names s))
    no_members)))

-- a class got another superclass
abbrev pub reparent_json : List Edit → ClassId → ClassId → Data
reparent_json edits c parent = only (codes "reparent") (object
    (member (codes "class") (string (class_text edits c))
    (member (codes "super") (string (class_text edits parent))
    no_members)))

-- an edit, with the names of its classes
abbrev pub edit_json : List (List ℕ) → List Edit → Edit → Data
edit_json names edits (Define name parent slots) = define_json edits name parent slots
edit_json names edits (Install c m) = install_json edits c m.source
edit_json names edits (Remove c s) = remove_json names edits c s
edit_json names edits (Reparent c parent) = reparent_json edits c parent
