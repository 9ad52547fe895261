-- Name resolution: from words to instructions.
use Rattle.std.specs.Prelude.{ℕ, List, [], ◌∷◌, true, false, Option, Some, option_map, option_and_then, slice_get}
use Rattle.std.specs.Option.{option_or}
use Rattle.st_classes.specs.declared.edits.Edit.{Edit}
use Rattle.st_classes.specs.declared.values.Value.TheVariants.{Nil, Bool as Boolean, Sym, Class}
use Rattle.st_classes.specs.declared.instructions.Instruction.{Instruction}
use Rattle.st_classes.specs.declared.instructions.Instruction.TheVariants.{PushLit, PushSelf, PushActor, PushTemp, PushSlot, StoreTemp, StoreSlot, Pop, Dup, Send, SuperSend, Jump, JumpFalse, JumpTrue, Answer}
use Rattle.st_classes.specs.Classes.{class_named}
use Rattle.st_classes.specs.Kernel.{selector}
use Rattle.st_classes.specs.Selectors.{place_of, reserved_names}
use Rattle.st_compile.specs.DraftCode.{Word, Line, literal, symbol, receiver, variable, store, drop, repeat, message, super_message, jump, jump_false, jump_true, return}

-- what the names of a method can mean: the classes that the edits give; the instance variables of its class; its
-- arguments and then its temporaries
pub record Scope : Type 0 where
  pub edits : List Edit
  pub slots : List (List ℕ)
  pub locals : List (List ℕ)

-- what the reserved names push: self, super, nil, true, false, thisActor, in this order
abbrev pub reserved_values : List Instruction
reserved_values = PushSelf ∷ PushSelf ∷ PushLit Nil ∷ PushLit (Boolean true) ∷ PushLit (Boolean false) ∷ PushActor ∷ []

-- the instruction of a reserved name
abbrev pub reserved : List ℕ → Option Instruction
reserved text = option_and_then (slice_get reserved_values) (place_of reserved_names text)

-- the instruction that pushes a name: a reserved name, else an argument or temporary, else an instance variable, else
-- a class
abbrev pub pushed : Scope → List ℕ → Option Instruction
pushed scope text =
    option_or (reserved text)
    (option_or (option_map PushTemp (place_of scope.locals text))
    (option_or (option_map PushSlot (place_of scope.slots text))
    (option_map (λ c. PushLit (Class c)) (class_named scope.edits text))))

-- the instruction that stores in an argument or temporary, or else in an instance variable
abbrev pub stored : Scope → List ℕ → Option Instruction
stored scope text =
    option_or
    (option_map StoreTemp (place_of scope.locals text))
    (option_map StoreSlot (place_of scope.slots text))

-- the instruction of a word, if its names exist: variables become indexes, selectors and symbols become numbers
abbrev pub instruction_of : List (List ℕ) → Scope → Word → Option Instruction
instruction_of names scope (literal v) = Some (PushLit v)
instruction_of names scope (symbol text) = option_map (λ s. PushLit (Sym (selector s))) (place_of names text)
instruction_of names scope receiver = Some PushSelf
instruction_of names scope (variable n) = pushed scope n.text
instruction_of names scope (store n) = stored scope n.text
instruction_of names scope drop = Some Pop
instruction_of names scope repeat = Some Dup
instruction_of names scope (message text arguments) =
    option_map (λ s. Send (selector s) arguments) (place_of names text)
instruction_of names scope (super_message text arguments) =
    option_map (λ s. SuperSend (selector s) arguments) (place_of names text)
instruction_of names scope (jump distance) = Some (Jump distance)
instruction_of names scope (jump_false distance) = Some (JumpFalse distance)
instruction_of names scope (jump_true distance) = Some (JumpTrue distance)
instruction_of names scope return = Some Answer

-- the instructions of a code, if each word has one
abbrev pub instructions_of : List (List ℕ) → Scope → List Line → Option (List Instruction)
instructions_of names scope [] = Some []
instructions_of names scope (l ∷ ls) =
    option_and_then
    (λ i. option_map (λ is. i ∷ is) (instructions_of names scope ls))
    (instruction_of names scope l.word)

-- the texts for which a word needs a number: one or none
abbrev pub word_texts : Word → List (List ℕ)
word_texts (symbol text) = text ∷ []
word_texts (message text arguments) = text ∷ []
word_texts (super_message text arguments) = text ∷ []
word_texts _ = []
