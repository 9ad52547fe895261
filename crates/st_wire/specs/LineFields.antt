-- What was found at the keys of a line's object.
use Rattle.std.specs.Prelude.{◌≡◌, ℕ, List, codes, if◌then◌else◌, Option, Some, None, option_and_then}
use Rattle.std.specs.Borrow.{Bor}
use Rattle.std.specs.Str.{bytes_eq}
use Rattle.serde_json.specs.Data.{Data, number, string, object, unsigned, Members}
use Rattle.serde_json.specs.Events.{members_len}
use Rattle.serde_json.specs.Find.{get_member, as_array}
use Rattle.st_wire.specs.declared.commands.Argument.{Argument}
use Rattle.st_wire.specs.declared.commands.Command.{Command}
use Rattle.st_wire.specs.declared.line_fields.LineFields.{LineFields}
use Rattle.st_wire.specs.Fields.{argument, each_of}

-- what was found at a key
pub data Part : Type 0 where
  nothing : Part
  whole : ℕ → Part
  text : List ℕ → Part
  arguments : List Argument → Part

abbrev pub whole_part : Option ℕ → Part
whole_part None = nothing
whole_part (Some n) = whole n

abbrev pub text_part : Option (Bor (List ℕ)) → Part
text_part None = nothing
text_part (Some s) = text s.now

abbrev pub arguments_part : Option (List Argument) → Part
arguments_part None = nothing
arguments_part (Some args) = arguments args

abbrev pub part_at : List ℕ → LineFields → Part
part_at key f =
    if bytes_eq key (codes "actor") then whole_part f.actor
    else (if bytes_eq key (codes "args") then arguments_part f.args
    else (if bytes_eq key (codes "class") then text_part f.class
    else (if bytes_eq key (codes "cmd") then text_part f.cmd
    else (if bytes_eq key (codes "epoch") then text_part f.epoch
    else (if bytes_eq key (codes "ms") then whole_part f.ms
    else (if bytes_eq key (codes "quanta") then whole_part f.quanta
    else (if bytes_eq key (codes "selector") then text_part f.selector
    else (if bytes_eq key (codes "sender") then whole_part f.sender
    else (if bytes_eq key (codes "seq") then whole_part f.seq
    else (if bytes_eq key (codes "source") then text_part f.source
    else (if bytes_eq key (codes "turn") then whole_part f.turn
    else nothing)))))))))))

-- a part is that of the value at the key, if there is one
abbrev pub IsPartOf : Part → Option Data → Type 0
IsPartOf nothing there = there ≡ None
IsPartOf (whole n) there = there ≡ Some (number (unsigned n))
IsPartOf (text s) there = there ≡ Some (string s)
IsPartOf (arguments args) there = option_and_then (each_of argument) (option_and_then as_array there) ≡ Some args

-- each key has the part of its value in these members, and the count is their number
abbrev pub IsFoundIn : LineFields → Members → Type 0
IsFoundIn f ms = ((key : List ℕ) → IsPartOf (part_at key f) (get_member key ms)) × (members_len ms ≡ f.count)

-- a command made from what was found is that of the form, for an object with these members
abbrev pub IsOfForm : (Data → Option Command) → LineFields → Command → Type 0
IsOfForm form f c = (ms : Members) → IsFoundIn f ms → form (object ms) ≡ Some c
