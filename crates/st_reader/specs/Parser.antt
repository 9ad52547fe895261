-- Reading tokens from the front, as functions. They give a tree exactly if these are the tree's tokens.
use Rattle.std.specs.Prelude.{◌≡◌, ℕ, zero, suc, ◌==◌, ◌^◌, pos, neg_ℤ, Bool, true, false, List, [], ◌∷◌, ◌++◌, length, Option, Some, None, option_map, option_and_then, nat_lt, nat_le, if◌then◌else◌, codes, Result, Ok, Err}
use Rattle.std.specs.Str.{bytes_eq}
use Rattle.st_reader.specs.declared.trees.Span.{Span}
use Rattle.st_reader.specs.declared.trees.Name.{Name}
use Rattle.st_reader.specs.declared.trees.Target.{Target}
use Rattle.st_reader.specs.declared.trees.Parameter.{Parameter}
use Rattle.st_reader.specs.declared.trees.Pattern.{Pattern}
use Rattle.st_reader.specs.declared.trees.Pattern.TheVariants.{Unary, Binary, Keyword}
use Rattle.st_reader.specs.declared.trees.Temporaries.{Temporaries}
use Rattle.st_reader.specs.declared.parser.Wrong.{Wrong}
use Rattle.st_reader.specs.declared.parser.Wrong.TheVariants.{NoTree, NoMemory as NoRoom}
use Rattle.st_reader.specs.declared.tokens.Mark.TheVariants.{OpenParenthesis, CloseParenthesis, OpenBlock, CloseBlock, Caret, Period, Semicolon, Bar}
use Rattle.st_reader.specs.Tokens.{Token}
use Rattle.st_reader.specs.Syntax.{Method, Expression, Message, Statements, parenthesis, empty_block, block, send, cascade, name, unary, keywords, last, answer, statement}
use Rattle.st_reader.specs.TreeViews.{parts_of, further_of, assigns}

-- A call returns what the reading function gives, seen through view. It fails only if that gives nothing, or memory
-- runs out.
abbrev pub Gives : {X Y : Type 0} → (X → Y) → Result X Wrong → Option Y → Type 0
Gives view (Ok x) read = read ≡ Some (view x)
Gives view (Err NoRoom) read = Unit {0}
Gives view (Err NoTree) read = read ≡ None

-- what was read, and the tokens after it
abbrev pub Read : Type 0 → Type 0
Read T = Option (T × List Token)

abbrev pub Parse : Type 0 → Type 0
Parse T = List Token → Read T

infixl 10 ◌>>=◌
abbrev pub ◌>>=◌ : {A B : Type 0} → Option A → (A → Option B) → Option B
o >>= f = option_and_then f o

-- items prepended to a list that was read
abbrev pub in_front : {X : Type 0} → List X → Read (List X) → Read (List X)
in_front xs read = option_map (λ r. (xs ++ r.0, r.1)) read

-- a number of 64 bits, with its minus if it has one
abbrev pub literal_of : Option Span → ℕ → Span → Option Expression
literal_of None n place = if nat_lt n (2 ^ 63) then Some (Expression.number (pos n) place None) else None
literal_of (Some minus) n place =
    if nat_le n (2 ^ 63)
    then Some (Expression.number (neg_ℤ (pos n)) place (Some minus))
    else None

-- digits directly after a minus
abbrev pub negative_of : Span → Parse Expression
negative_of minus (Token.number n place ∷ ts) =
    if minus.end == place.start
    then option_map (λ e. (e, ts)) (literal_of (Some minus) n place)
    else None
negative_of minus _ = None

-- the parenthesis that closes a group
abbrev pub parenthesis_end : Parse Span
parenthesis_end (Token.mark CloseParenthesis place ∷ ts) = Some (place, ts)
parenthesis_end _ = None

-- the bracket that closes a block
abbrev pub block_end : Parse Span
block_end (Token.mark CloseBlock place ∷ ts) = Some (place, ts)
block_end _ = None

-- unary messages, as many as there are
unfoldable pub unaries_of : Expression → List Token → Expression × List Token
unaries_of e (Token.identifier n ∷ ts) = unaries_of (send e (unary n)) ts
unaries_of e ts = (e, ts)

-- a keyword message, if there are keywords
abbrev pub with_parts : Expression → List (Name × Expression) → Expression
with_parts e [] = e
with_parts e (p ∷ ps) = send e (keywords (parts_of (p ∷ ps)))

-- a cascade, if there are further messages: they go to the receiver of the last message
abbrev pub with_further : Expression → List (Span × Message) → Option Expression
with_further e [] = Some e
with_further (send e m) (f ∷ fs) = Some (cascade e m (further_of (f ∷ fs)))
with_further _ (f ∷ fs) = None

-- the variables that are assigned to, as many as there are
unfoldable pub targets_of : List Token → List Target × List Token
targets_of (Token.identifier n ∷ Token.assign place ∷ ts) =
    ((record { name = n; assign = place }) ∷ (targets_of ts).0, (targets_of ts).1)
targets_of ts = ([], ts)

-- the parts of an expression, given what is read after opening brackets
module _ (group inner : Span → Parse Expression) where
  abbrev pub operand_of : Parse Expression
  operand_of (Token.identifier n ∷ ts) = Some (name n, ts)
  operand_of (Token.symbol n ∷ ts) = Some (Expression.symbol n, ts)
  operand_of (Token.number n place ∷ ts) = option_map (λ e. (e, ts)) (literal_of None n place)
  operand_of (Token.binary n ∷ ts) = if bytes_eq n.text (codes "-") then negative_of n.span ts else None
  operand_of (Token.mark OpenParenthesis place ∷ ts) = group place ts
  operand_of (Token.mark OpenBlock place ∷ ts) = inner place ts
  operand_of _ = None

  -- an operand and its unary messages
  unfoldable pub term_of : Parse Expression
  term_of ts = operand_of ts >>= λ r. Some (unaries_of r.0 r.1)

  -- binary messages, at most n
  unfoldable pub operations_of : ℕ → Expression → Parse Expression
  operations_of (suc n) e (Token.binary s ∷ ts) =
      term_of ts >>= λ r. operations_of n (send e (Message.binary s r.0)) r.1
  operations_of n e ts = Some (e, ts)

  -- a term and its binary messages
  unfoldable pub binary_of : Parse Expression
  binary_of ts = term_of ts >>= λ r. operations_of (length r.1) r.0 r.1

  -- keywords with their arguments, at most k
  unfoldable pub keyword_parts_of : ℕ → Parse (List (Name × Expression))
  keyword_parts_of zero (Token.keyword n ∷ ts) = None
  keyword_parts_of (suc k) (Token.keyword n ∷ ts) =
      binary_of ts >>= λ r. in_front ((n, r.0) ∷ []) (keyword_parts_of k r.1)
  keyword_parts_of k ts = Some ([], ts)

  -- an expression of binary messages, and its keyword message if there is one
  unfoldable pub chain_of : Parse Expression
  chain_of ts = binary_of ts >>= λ r. keyword_parts_of 8 r.1 >>= λ p. Some (with_parts r.0 p.0, p.1)

  -- a single message
  unfoldable pub message_of : Parse Message
  message_of (Token.identifier n ∷ ts) = Some (unary n, ts)
  message_of (Token.binary n ∷ ts) = term_of ts >>= λ r. Some (Message.binary n r.0, r.1)
  message_of (Token.keyword n ∷ ts) =
      keyword_parts_of 8 (Token.keyword n ∷ ts) >>= λ p. Some (keywords (parts_of p.0), p.1)
  message_of _ = None

  -- messages after semicolons, at most n
  unfoldable pub further_messages_of : ℕ → Parse (List (Span × Message))
  further_messages_of (suc n) (Token.mark Semicolon place ∷ ts) =
      message_of ts >>= λ r. in_front ((place, r.0) ∷ []) (further_messages_of n r.1)
  further_messages_of n ts = Some ([], ts)

  -- a chain, or a cascade
  unfoldable pub value_of : Parse Expression
  value_of ts =
      chain_of ts
      >>= λ r. further_messages_of (length r.1) r.1
      >>= λ f. option_map (λ e. (e, f.1)) (with_further r.0 f.0)

  -- a value, and what it is assigned to
  unfoldable pub expression_with : Parse Expression
  expression_with ts = option_map (λ r. (assigns (targets_of ts).0 r.0, r.1)) (value_of (targets_of ts).1)

-- whether statements end here
abbrev pub is_end : List Token → Bool
is_end [] = true
is_end (Token.mark CloseBlock place ∷ ts) = true
is_end _ = false

-- the answered expression, with its period if there is one
abbrev pub answered : Span → Expression → List Token → Statements × List Token
answered caret e (Token.mark Period place ∷ ts) = (answer caret e (Some place), ts)
answered caret e ts = (answer caret e None, ts)

-- what follows an expression: more statements after a period, or nothing
abbrev pub statement_of : Parse Statements → Expression → Parse Statements
statement_of more e (Token.mark Period place ∷ ts) =
    if is_end ts then Some (last e (Some place), ts)
    else option_map (λ r. (statement e place r.0, r.1)) (more ts)
statement_of more e ts = Some (last e None, ts)

-- statements, at most n
unfoldable pub statements_with : Parse Expression → ℕ → Parse Statements
statements_with expression zero ts = None
statements_with expression (suc n) (Token.mark Caret place ∷ ts) =
    option_map (λ r. answered place r.0 r.1) (expression ts)
statements_with expression (suc n) ts = expression ts >>= λ r. statement_of (statements_with expression n) r.0 r.1

-- a group, after its opening parenthesis
unfoldable pub group_with : Parse Expression → Span → Parse Expression
group_with expression opening ts =
    expression ts
    >>= λ r. parenthesis_end r.1
    >>= λ c. Some (parenthesis opening r.0 c.0, c.1)

-- a block with statements, after its opening bracket
unfoldable pub filled_block_with : Parse Expression → Span → Parse Expression
filled_block_with expression opening ts =
    statements_with expression (length ts) ts
    >>= λ r. block_end r.1
    >>= λ c. Some (block opening r.0 c.0, c.1)

-- a block, after its opening bracket
unfoldable pub block_with : Parse Expression → Span → Parse Expression
block_with expression opening (Token.mark CloseBlock place ∷ ts) = Some (empty_block opening place, ts)
block_with expression opening ts = filled_block_with expression opening ts

-- nothing can be read
abbrev pub nothing : Span → Parse Expression
nothing place ts = None

-- an expression in which brackets nest at most n deep
unfoldable pub expression_of : ℕ → Parse Expression
expression_of zero = expression_with nothing nothing
expression_of (suc n) = expression_with (group_with (expression_of n)) (block_with (expression_of n))

-- a group after its opening parenthesis, if brackets may nest n deep, this one included
abbrev pub group_of : ℕ → Span → Parse Expression
group_of zero = nothing
group_of (suc n) = group_with (expression_of n)

-- the same for a block
abbrev pub block_of : ℕ → Span → Parse Expression
block_of zero = nothing
block_of (suc n) = block_with (expression_of n)

-- the name of an argument
abbrev pub parameter_of : Parse Name
parameter_of (Token.identifier n ∷ ts) = Some (n, ts)
parameter_of _ = None

-- keywords with the names of their arguments, at most k
unfoldable pub parameters_of : ℕ → Parse (List Parameter)
parameters_of zero (Token.keyword n ∷ ts) = None
parameters_of (suc k) (Token.keyword n ∷ ts) =
    parameter_of ts >>= λ r. in_front ((record { keyword = n; argument = r.0 }) ∷ []) (parameters_of k r.1)
parameters_of k ts = Some ([], ts)

-- the pattern of a method
unfoldable pub pattern_of : Parse Pattern
pattern_of (Token.identifier n ∷ ts) = Some (Unary n, ts)
pattern_of (Token.binary n ∷ ts) = parameter_of ts >>= λ r. Some (Binary n r.0, r.1)
pattern_of (Token.keyword n ∷ ts) = option_map (λ r. (Keyword r.0, r.1)) (parameters_of 8 (Token.keyword n ∷ ts))
pattern_of _ = None

-- names, as many as there are
unfoldable pub names_of : List Token → List Name × List Token
names_of (Token.identifier n ∷ ts) = (n ∷ (names_of ts).0, (names_of ts).1)
names_of ts = ([], ts)

-- the bar that closes temporaries
abbrev pub temporaries_end : Span → List Name → Parse (Option Temporaries)
temporaries_end opening names (Token.mark Bar place ∷ ts) =
    Some (Some (record { opening = opening; names = names; closing = place }), ts)
temporaries_end opening names _ = None

-- the temporaries, if there are bars
unfoldable pub temporaries_of : Parse (Option Temporaries)
temporaries_of (Token.mark Bar place ∷ ts) = temporaries_end place (names_of ts).0 (names_of ts).1
temporaries_of ts = Some (None, ts)

-- what was read, if no token is left
abbrev pub whole : {T : Type 0} → T × List Token → Option T
whole (x, []) = Some x
whole (x, t ∷ ts) = None

-- the statements of a method, up to the end
unfoldable pub body_of : List Token → Option (Option Statements)
body_of [] = Some None
body_of (t ∷ ts) = option_map (λ ss. Some ss) (statements_with (expression_of 64) (length (t ∷ ts)) (t ∷ ts) >>= whole)

-- a method
unfoldable pub method_of : List Token → Option Method
method_of ts =
    pattern_of ts
    >>= λ p. temporaries_of p.1
    >>= λ t. option_map (λ b. record { pattern = p.0; temporaries = t.0; body = b }) (body_of t.1)
