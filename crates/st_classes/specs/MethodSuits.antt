-- Methods that suit a class table and the given names.
use Rattle.std.specs.Prelude.{ℕ, ◌+◌, ◌==◌, ◌&&◌, List, length, Bool, true, false, Option, Some, None, nat_lt, slice_get, option_and_then}
use Rattle.std.specs.List.{list_all}
use Rattle.st_classes.specs.declared.values.ClassId.{ClassId}
use Rattle.st_classes.specs.declared.values.Selector.{Selector}
use Rattle.st_classes.specs.declared.values.Value.{Value}
use Rattle.st_classes.specs.declared.values.Value.TheVariants.{Int, Bool as Boolean, Nil, Sym, Class, Actor, Local}
use Rattle.st_classes.specs.declared.instructions.Instruction.{Instruction}
use Rattle.st_classes.specs.declared.instructions.Instruction.TheVariants.{PushLit, PushSelf, PushActor, PushTemp, PushSlot, StoreTemp, StoreSlot, Pop, Dup, Send, SuperSend, Jump, JumpFalse, JumpTrue, Answer}
use Rattle.st_classes.specs.declared.methods.MethodParts.{MethodParts}
use Rattle.st_classes.specs.declared.edits.Edit.{Edit}
use Rattle.st_classes.specs.declared.edits.Edit.TheVariants.{Define, Install, Remove, Reparent}
use Rattle.st_classes.specs.Classes.{class_count, slots}
use Rattle.st_classes.specs.Selectors.{arity_of}

-- the number of arguments of the selector with a given number
abbrev pub arity_at : List (List ℕ) → Selector → Option ℕ
arity_at names s = option_and_then arity_of (slice_get names s.0)

-- the option holds this number
abbrev pub is_number : Option ℕ → ℕ → Bool
is_number None n = false
is_number (Some m) n = m == n

-- what a value names exists, given the names and the numbers of classes, actors and objects of the actor
abbrev pub is_there : List (List ℕ) → ℕ → ℕ → ℕ → Value → Bool
is_there names classes actors objects (Int z) = true
is_there names classes actors objects (Boolean b) = true
is_there names classes actors objects Nil = true
is_there names classes actors objects (Sym s) = nat_lt s.0 (length names)
is_there names classes actors objects (Class c) = nat_lt c.0 classes
is_there names classes actors objects (Actor a) = nat_lt a.0 actors
is_there names classes actors objects (Local n) = nat_lt n objects

-- a literal names neither an actor nor an object, and what it names exists
abbrev pub literal_suits : List (List ℕ) → ℕ → Value → Bool
literal_suits names classes v = is_there names classes 0 0 v

-- an instruction suits its method: there are count classes, slots instance variables, and temps arguments and
-- temporaries
abbrev pub instruction_suits : List (List ℕ) → ℕ → ℕ → ℕ → Instruction → Bool
instruction_suits names count slots temps (PushLit v) = literal_suits names count v
instruction_suits names count slots temps PushSelf = true
instruction_suits names count slots temps PushActor = true
instruction_suits names count slots temps (PushTemp i) = nat_lt i temps
instruction_suits names count slots temps (PushSlot i) = nat_lt i slots
instruction_suits names count slots temps (StoreTemp i) = nat_lt i temps
instruction_suits names count slots temps (StoreSlot i) = nat_lt i slots
instruction_suits names count slots temps Pop = true
instruction_suits names count slots temps Dup = true
instruction_suits names count slots temps (Send s n) = is_number (arity_at names s) n
instruction_suits names count slots temps (SuperSend s n) = is_number (arity_at names s) n
instruction_suits names count slots temps (Jump d) = true
instruction_suits names count slots temps (JumpFalse d) = true
instruction_suits names count slots temps (JumpTrue d) = true
instruction_suits names count slots temps Answer = true

-- a method suits a class: the class is its holder, it has as many arguments as its selector, its sends have as many
-- as theirs, and what it names exists
abbrev pub suits : List (List ℕ) → List Edit → ClassId → MethodParts → Bool
suits names edits c m =
    (m.holder.0 == c.0)
    && is_number (arity_at names m.selector) m.arguments
    && list_all
    (instruction_suits names (class_count edits) (length (slots edits c)) (m.arguments + m.temporaries))
    m.code

-- an installed method suits its class; other edits always do
abbrev pub edit_suits : List (List ℕ) → List Edit → Edit → Bool
edit_suits names edits (Define name parent slots) = true
edit_suits names edits (Install c m) = suits names edits c m
edit_suits names edits (Remove c s) = true
edit_suits names edits (Reparent c p) = true
