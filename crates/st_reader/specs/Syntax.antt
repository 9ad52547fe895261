-- The syntax of a method's body.
use Rattle.std.specs.Prelude.{ℤ, Option}
use Rattle.st_reader.specs.declared.trees.Span.{Span}
use Rattle.st_reader.specs.declared.trees.Name.{Name}
use Rattle.st_reader.specs.declared.trees.Pattern.{Pattern}
use Rattle.st_reader.specs.declared.trees.Temporaries.{Temporaries}

mutual
  -- an expression; a message may go to any
  pub data Expression : Type 0 where
    number : ℤ → Span → Option Span → Expression
    symbol : Name → Expression
    name : Name → Expression
    parenthesis : Span → Expression → Span → Expression
    empty_block : Span → Span → Expression
    block : Span → Statements → Span → Expression
    send : Expression → Message → Expression
    cascade : Expression → Message → Further → Expression
    assign : Name → Span → Expression → Expression

  pub data Message : Type 0 where
    unary : Name → Message
    binary : Name → Expression → Message
    keywords : Parts → Message

  pub data Parts : Type 0 where
    no_parts : Parts
    part : Name → Expression → Parts → Parts

  pub data Further : Type 0 where
    no_further : Further
    further : Span → Message → Further → Further

  pub data Statements : Type 0 where
    last : Expression → Option Span → Statements
    answer : Span → Expression → Option Span → Statements
    statement : Expression → Span → Statements → Statements

-- a method: its pattern, its temporaries if it has bars, and its statements if it has any
pub record Method : Type 0 where
  pub pattern : Pattern
  pub temporaries : Option Temporaries
  pub body : Option Statements
