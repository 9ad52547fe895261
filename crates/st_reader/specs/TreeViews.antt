-- The syntax of a tree.
use Rattle.std.specs.Prelude.{ℕ, List, [], ◌∷◌, Option, Some, None, option_map, map}
use Rattle.std.specs.declared.vec.Vec.{Vec}
use Rattle.std.specs.declared.alloc.Global.{Global}
use Rattle.st_reader.specs.declared.trees.Span.{Span}
use Rattle.st_reader.specs.declared.trees.Name.{Name}
use Rattle.st_reader.specs.declared.trees.Target.{Target}
use Rattle.st_reader.specs.declared.trees.Operand.{Operand, fold-Operand, Operand-F}
use Rattle.st_reader.specs.declared.trees.Chain.{Chain, fold-Chain, Chain-F}
use Rattle.st_reader.specs.declared.trees.Message.{Message as Sent, fold-Message, Message-F}
use Rattle.st_reader.specs.declared.trees.Expression.{Expression as Written, fold-Expression, Expression-F}
use Rattle.st_reader.specs.declared.trees.Statements.{Statements as Row, fold-Statements, Statements-F}
use Rattle.st_reader.specs.declared.trees.MethodSyntax.{MethodSyntax}
use Rattle.st_reader.specs.Syntax.{Method, Expression, number, symbol, name, parenthesis, empty_block, block, send, cascade, assign, Message, unary, binary, keywords, Parts, no_parts, part, Further, no_further, further, Statements, last, answer, statement}

-- keywords with their arguments
abbrev pub parts_of : List (Name × Expression) → Parts
parts_of [] = no_parts
parts_of (p ∷ ps) = part p.0 p.1 (parts_of ps)

-- the further messages of a cascade
abbrev pub further_of : List (Span × Message) → Further
further_of [] = no_further
further_of (m ∷ ms) = further m.0 m.1 (further_of ms)

-- each message goes to the answer of the one before
abbrev pub sends : Expression → List Message → Expression
sends e [] = e
sends e (m ∷ ms) = sends (send e m) ms

-- a value is assigned to the last variable first
abbrev pub assigns : List Target → Expression → Expression
assigns [] e = e
assigns (t ∷ ts) e = assign t.name t.assign (assigns ts e)

-- statements prepended to others
abbrev pub thens : List (Expression × Span) → Statements → Statements
thens [] ss = ss
thens (s ∷ before) ss = statement s.0 s.1 (thens before ss)

-- a last statement, answered if it has a caret
abbrev pub last_of : Option Span → Expression → Option Span → Statements
last_of None e period = last e period
last_of (Some caret) e period = answer caret e period

-- a cascade, if there is one
abbrev pub cascaded : Expression → Option (Message × List (Span × Message)) → Expression
cascaded e None = e
cascaded e (Some c) = cascade e c.0 (further_of c.1)

-- the syntax of one node of each type, given the syntax of its children
module _ where
  abbrev pub operand_step : Operand-F Message Expression Expression Expression Statements → Expression
  operand_step (Operand-F.Number value span minus) = number value span minus
  operand_step (Operand-F.Symbol n) = symbol n
  operand_step (Operand-F.Name n) = name n
  operand_step (Operand-F.Parenthesis opening inside closing) = parenthesis opening inside.value closing
  operand_step (Operand-F.Block opening None closing) = empty_block opening closing
  operand_step (Operand-F.Block opening (Some inside) closing) = block opening inside.value closing

  abbrev pub message_step : Message-F Message Expression Expression Expression Statements → Message
  message_step (Message-F.Unary n) = unary n
  message_step (Message-F.Binary n argument) = binary n argument
  message_step (Message-F.Keyword parts) = keywords (parts_of parts.items)

  abbrev pub chain_step : Chain-F Message Expression Expression Expression Statements → Expression
  chain_step c = sends c.operand c.messages.items

  abbrev pub expression_step : Expression-F Message Expression Expression Expression Statements → Expression
  expression_step e = assigns e.targets (cascaded e.receiver (option_map (λ c. (c.0, c.1.items)) e.cascade))

  abbrev pub statements_step : Statements-F Message Expression Expression Expression Statements → Statements
  statements_step s = thens s.before.items (last_of s.caret s.last s.period)

abbrev pub operand_view : Operand → Expression
operand_view =
    fold-Operand Message Expression Expression Expression Statements
    message_step operand_step chain_step expression_step statements_step

abbrev pub message_view : Sent → Message
message_view =
    fold-Message Message Expression Expression Expression Statements
    message_step operand_step chain_step expression_step statements_step

abbrev pub chain_view : Chain → Expression
chain_view =
    fold-Chain Message Expression Expression Expression Statements
    message_step operand_step chain_step expression_step statements_step

abbrev pub expression_view : Written → Expression
expression_view =
    fold-Expression Message Expression Expression Expression Statements
    message_step operand_step chain_step expression_step statements_step

abbrev pub statements_view : Row → Statements
statements_view =
    fold-Statements Message Expression Expression Expression Statements
    message_step operand_step chain_step expression_step statements_step

-- the syntax of keywords with their arguments
abbrev pub seen_parts : List (Name × Chain) → List (Name × Expression)
seen_parts ps = map (λ p. (p.0, chain_view p.1)) ps

-- the syntax of the further messages of a cascade
abbrev pub seen_further : List (Span × Sent) → List (Span × Message)
seen_further ms = map (λ m. (m.0, message_view m.1)) ms

-- the syntax of the messages of a cascade
abbrev pub seen_cascade : Option (Sent × Vec (Span × Sent) Global) → Option (Message × List (Span × Message))
seen_cascade None = None
seen_cascade (Some c) = Some (message_view c.0, seen_further c.1.items)

-- the syntax of statements with their periods
abbrev pub seen_sentences : List (Written × Span) → List (Expression × Span)
seen_sentences ss = map (λ s. (expression_view s.0, s.1)) ss

-- statements prepended to those that were read
abbrev pub behind_sentences : {T : Type 0} → List (Expression × Span) → Statements × T → Statements × T
behind_sentences before r = (thens before r.0, r.1)

-- the syntax of a method
abbrev pub method_view : MethodSyntax → Method
method_view m = record { pattern = m.pattern; temporaries = m.temporaries; body = option_map statements_view m.body }

-- the tree of a method: its syntax, and the source that spells it
pub record TreeView : Type 0 where
  pub syntax : Method
  pub source : List ℕ
