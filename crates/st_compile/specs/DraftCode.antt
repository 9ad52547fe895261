-- Instructions whose names are still texts, with the number of operands before each.
use Rattle.std.specs.Prelude.{ℕ, ℤ, List}
use Rattle.st_classes.specs.declared.values.Value.{Value}
use Rattle.st_reader.specs.declared.trees.Name.{Name}

-- an instruction whose name is still a text
pub data Word : Type 0 where
  literal : Value → Word
  symbol : List ℕ → Word
  receiver : Word
  variable : Name → Word
  store : Name → Word
  drop : Word
  repeat : Word
  message : List ℕ → ℕ → Word
  super_message : List ℕ → ℕ → Word
  jump : ℤ → Word
  jump_false : ℕ → Word
  jump_true : ℕ → Word
  return : Word

-- a word, with the number of operands before it
pub record Line : Type 0 where
  pub depth : ℕ
  pub word : Word

abbrev pub line : ℕ → Word → Line
line d w = record { depth = d; word = w }
