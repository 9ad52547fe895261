-- The grammar: the tokens of a tree, by one equation for each form, and how tightly each form binds.
use Rattle.std.specs.Prelude.{◌≡◌, ℕ, suc, ◌<◌, ◌≤◌, ◌^◌, ℤ, pos, negsuc, unsigned_abs, max, List, [], ◌∷◌, ◌++◌, length, Option, Some, None, codes}
use Rattle.st_reader.specs.declared.trees.Span.{Span}
use Rattle.st_reader.specs.declared.trees.Name.{Name}
use Rattle.std.specs.List.{flat_map}
use Rattle.st_reader.specs.declared.trees.Parameter.{Parameter}
use Rattle.st_reader.specs.declared.trees.Pattern.{Pattern}
use Rattle.st_reader.specs.declared.trees.Pattern.TheVariants.{Unary, Binary, Keyword}
use Rattle.st_reader.specs.declared.trees.Temporaries.{Temporaries}
use Rattle.st_reader.specs.declared.tokens.Mark.TheVariants.{OpenParenthesis, CloseParenthesis, OpenBlock, CloseBlock, Caret, Period, Semicolon, Bar}
use Rattle.st_reader.specs.Tokens.{Token}
use Rattle.st_reader.specs.Syntax.{Method, Expression, Message, Parts, Further, Statements, parenthesis, empty_block, block, send, cascade, name, unary, keywords, no_parts, part, no_further, further, last, answer, statement}

-- the minus of a number, if it has one
abbrev pub minus_toks : Option Span → List Token
minus_toks None = []
minus_toks (Some place) = Token.binary (record { text = codes "-"; span = place }) ∷ []

-- a last period, if there is one
abbrev pub period_toks : Option Span → List Token
period_toks None = []
period_toks (Some place) = Token.mark Period place ∷ []

-- the tokens of expressions, of messages and of statements
abbrev mutual
  pub toks : Expression → List Token
  toks (Expression.number value place minus) = minus_toks minus ++ Token.number (unsigned_abs value) place ∷ []
  toks (Expression.symbol n) = Token.symbol n ∷ []
  toks (name n) = Token.identifier n ∷ []
  toks (parenthesis opening e closing) =
      Token.mark OpenParenthesis opening
      ∷ (toks e ++ Token.mark CloseParenthesis closing ∷ [])
  toks (empty_block opening closing) = Token.mark OpenBlock opening ∷ Token.mark CloseBlock closing ∷ []
  toks (block opening ss closing) =
      Token.mark OpenBlock opening
      ∷ (statements_toks ss ++ Token.mark CloseBlock closing ∷ [])
  toks (send e m) = toks e ++ message_toks m
  toks (cascade e m ms) = toks e ++ (message_toks m ++ further_toks ms)
  toks (Expression.assign n place e) = Token.identifier n ∷ Token.assign place ∷ toks e

  pub message_toks : Message → List Token
  message_toks (unary n) = Token.identifier n ∷ []
  message_toks (Message.binary n e) = Token.binary n ∷ toks e
  message_toks (keywords ps) = parts_toks ps

  pub parts_toks : Parts → List Token
  parts_toks no_parts = []
  parts_toks (part n e ps) = Token.keyword n ∷ (toks e ++ parts_toks ps)

  pub further_toks : Further → List Token
  further_toks no_further = []
  further_toks (further place m ms) = Token.mark Semicolon place ∷ (message_toks m ++ further_toks ms)

  pub statements_toks : Statements → List Token
  statements_toks (last e period) = toks e ++ period_toks period
  statements_toks (answer caret e period) = Token.mark Caret caret ∷ (toks e ++ period_toks period)
  statements_toks (statement e period ss) = toks e ++ Token.mark Period period ∷ statements_toks ss

-- How tightly an expression binds: 0 for an operand, 1 after unary messages, 2 after binary ones, 3 after a keyword
-- message, 4 for a cascade, 5 for an assignment.
abbrev mutual
  pub level : Expression → ℕ
  level (send e m) = message_level m
  level (cascade e m ms) = 4
  level (Expression.assign n place e) = 5
  level _ = 0

  pub message_level : Message → ℕ
  message_level (unary n) = 1
  message_level (Message.binary n e) = 2
  message_level (keywords ps) = 3

-- without a minus from 0 to 2^63 - 1; with a minus, which is directly before the digits, from -2^63 to 0
abbrev pub NumberFits : ℤ → Span → Option Span → Type 0
NumberFits (pos n) place None = n < 2 ^ 63
NumberFits (negsuc n) place None = ⊥
NumberFits (pos n) place (Some minus) = (n ≡ 0) × (minus.end ≡ place.start)
NumberFits (negsuc n) place (Some minus) = (n < 2 ^ 63) × (minus.end ≡ place.start)

-- the greatest level of a message's receiver: 1 for a unary message, 2 for a binary or keyword message
abbrev pub goes_to : Message → ℕ
goes_to (unary n) = 1
goes_to (Message.binary n e) = 2
goes_to (keywords ps) = 2

-- the number of keywords of a message
abbrev pub count : Parts → ℕ
count no_parts = 0
count (part n e ps) = suc (count ps)

-- a cascade has at least one further message
abbrev pub IsSome : Further → Type 0
IsSome no_further = ⊥
IsSome (further place m ms) = Unit {0}

-- An expression of the grammar. Unary messages bind more tightly than binary ones, and these more tightly than
-- keyword messages; they associate from the left. A keyword message has 1 to 8 keywords.
abbrev mutual
  pub IsExpression : Expression → Type 0
  IsExpression (Expression.number value place minus) = NumberFits value place minus
  IsExpression (Expression.symbol n) = Unit {0}
  IsExpression (name n) = Unit {0}
  IsExpression (parenthesis opening e closing) = IsExpression e
  IsExpression (empty_block opening closing) = Unit {0}
  IsExpression (block opening ss closing) = AreStatements ss
  IsExpression (send e m) = IsExpression e × (level e ≤ goes_to m) × IsMessage m
  IsExpression (cascade e m ms) = IsExpression e × (level e ≤ goes_to m) × IsMessage m × IsSome ms × AreFurther ms
  IsExpression (Expression.assign n place e) = IsExpression e

  pub IsMessage : Message → Type 0
  IsMessage (unary n) = Unit {0}
  IsMessage (Message.binary n e) = (level e ≤ 1) × IsExpression e
  IsMessage (keywords ps) = (1 ≤ count ps) × (count ps ≤ 8) × AreParts ps

  pub AreParts : Parts → Type 0
  AreParts no_parts = Unit {0}
  AreParts (part n e ps) = (level e ≤ 2) × IsExpression e × AreParts ps

  pub AreFurther : Further → Type 0
  AreFurther no_further = Unit {0}
  AreFurther (further place m ms) = IsMessage m × AreFurther ms

  pub AreStatements : Statements → Type 0
  AreStatements (last e period) = IsExpression e
  AreStatements (answer caret e period) = IsExpression e
  AreStatements (statement e period ss) = IsExpression e × AreStatements ss

-- how deep parentheses and blocks nest
abbrev mutual
  pub nesting : Expression → ℕ
  nesting (Expression.number value place minus) = 0
  nesting (Expression.symbol n) = 0
  nesting (name n) = 0
  nesting (parenthesis opening e closing) = suc (nesting e)
  nesting (empty_block opening closing) = 1
  nesting (block opening ss closing) = suc (statements_nesting ss)
  nesting (send e m) = max (nesting e) (message_nesting m)
  nesting (cascade e m ms) = max (nesting e) (max (message_nesting m) (further_nesting ms))
  nesting (Expression.assign n place e) = nesting e

  pub message_nesting : Message → ℕ
  message_nesting (unary n) = 0
  message_nesting (Message.binary n e) = nesting e
  message_nesting (keywords ps) = parts_nesting ps

  pub parts_nesting : Parts → ℕ
  parts_nesting no_parts = 0
  parts_nesting (part n e ps) = max (nesting e) (parts_nesting ps)

  pub further_nesting : Further → ℕ
  further_nesting no_further = 0
  further_nesting (further place m ms) = max (message_nesting m) (further_nesting ms)

  pub statements_nesting : Statements → ℕ
  statements_nesting (last e period) = nesting e
  statements_nesting (answer caret e period) = nesting e
  statements_nesting (statement e period ss) = max (nesting e) (statements_nesting ss)

-- a keyword of a pattern and the name of its argument
abbrev pub parameter_toks : Parameter → List Token
parameter_toks p = Token.keyword p.keyword ∷ Token.identifier p.argument ∷ []

-- the tokens of a pattern
abbrev pub pattern_toks : Pattern → List Token
pattern_toks (Unary n) = Token.identifier n ∷ []
pattern_toks (Binary n argument) = Token.binary n ∷ Token.identifier argument ∷ []
pattern_toks (Keyword ps) = flat_map parameter_toks ps

-- the token of a variable
abbrev pub name_toks : Name → List Token
name_toks n = Token.identifier n ∷ []

-- temporaries between bars, if there are bars
abbrev pub temporaries_toks : Option Temporaries → List Token
temporaries_toks None = []
temporaries_toks (Some t) = Token.mark Bar t.opening ∷ (flat_map name_toks t.names ++ Token.mark Bar t.closing ∷ [])

-- the statements of a method, if it has any
abbrev pub body_toks : Option Statements → List Token
body_toks None = []
body_toks (Some ss) = statements_toks ss

-- the tokens of a method
abbrev pub method_toks : Method → List Token
method_toks m = pattern_toks m.pattern ++ (temporaries_toks m.temporaries ++ body_toks m.body)

-- a keyword pattern has 1 to 8 keywords
abbrev pub IsPattern : Pattern → Type 0
IsPattern (Unary n) = Unit {0}
IsPattern (Binary n argument) = Unit {0}
IsPattern (Keyword ps) = (1 ≤ length ps) × (length ps ≤ 8)

-- statements of the grammar, in which brackets nest at most 64 deep
abbrev pub IsBody : Option Statements → Type 0
IsBody None = Unit {0}
IsBody (Some ss) = AreStatements ss × (statements_nesting ss ≤ 64)

-- a method of the grammar
pub record IsMethod (m : Method) : Type 0 where
  pub pattern : IsPattern m.pattern
  pub body : IsBody m.body
