-- The code of a method, with the depth of each instruction: one equation for each form of the grammar.
use Rattle.std.specs.Prelude.{ℕ, ◌+◌, pos, negsuc, List, [], ◌∷◌, ◌++◌, length, Bool, true, false, Option, Some, None}
use Rattle.st_classes.specs.declared.values.Value.{Value}
use Rattle.st_classes.specs.declared.values.Value.TheVariants.{Int, Nil, Bool as Boolean}
use Rattle.st_reader.specs.declared.inlining.Inlining.{Inlining}
use Rattle.st_reader.specs.declared.inlining.Inlining.TheVariants.{IfTrue, IfFalse, IfTrueIfFalse, IfFalseIfTrue, And, Or, WhileTrue, WhileFalse}
use Rattle.st_reader.specs.Syntax.{Method, Expression, Message, Parts, Further, Statements, parenthesis, empty_block, block, send, cascade, name, unary, keywords, no_parts, part, no_further, further, last, answer, statement}
use Rattle.st_reader.specs.Grammar.{count}
use Rattle.st_reader.specs.Inlining.{inlining, is_inlined, is_super, keyword_names}
use Rattle.st_compile.specs.DraftCode.{Word, Line, line, literal, symbol, receiver, variable, store, drop, repeat, message, super_message, jump, jump_false, jump_true, return}

-- the selector of a keyword message: its keywords joined
abbrev pub joined : Parts → List ℕ
joined no_parts = []
joined (part n e ps) = n.text ++ joined ps

-- a message, to super if the flag is true
abbrev pub to : Bool → List ℕ → ℕ → Word
to false = message
to true = super_message

-- two arms: the value a if the jump isn't taken, the value b if it is
abbrev pub either : (ℕ → Word) → ℕ → List Line → List Line → List Line → List Line
either branch d r a b = r ++ line (d + 1) (branch (length a + 1)) ∷ (a ++ line (d + 1) (jump (pos (length b))) ∷ b)

-- the condition c, and the body b again as long as the jump isn't taken after c; then nil
abbrev pub loop : (ℕ → Word) → ℕ → List Line → List Line → List Line
loop branch d c b =
    c
    ++ line (d + 1) (branch (length b + 2))
    ∷ (b
    ++ line (d + 1) drop
    ∷ line d (jump (negsuc (length c + length b + 2)))
    ∷ line d (literal Nil)
    ∷ [])

-- a value that is not a block's
abbrev pub plain : ℕ → Value → List Line
plain d v = line d (literal v) ∷ []

-- an inlined message, from the codes of its receiver and its blocks; for any other message only the receiver's code
abbrev pub inlined : ℕ → Option Inlining → List Line → List (List Line) → List Line
inlined d (Some IfTrue) r (v ∷ []) = either jump_false d r v (plain d Nil)
inlined d (Some IfFalse) r (v ∷ []) = either jump_true d r v (plain d Nil)
inlined d (Some IfTrueIfFalse) r (a ∷ b ∷ []) = either jump_false d r a b
inlined d (Some IfFalseIfTrue) r (a ∷ b ∷ []) = either jump_true d r a b
inlined d (Some And) r (v ∷ []) = either jump_false d r v (plain d (Boolean false))
inlined d (Some Or) r (v ∷ []) = either jump_true d r v (plain d (Boolean true))
inlined d (Some WhileTrue) c (b ∷ []) = loop jump_false d c b
inlined d (Some WhileFalse) c (b ∷ []) = loop jump_true d c b
inlined d _ r vs = r

-- how a message is inlined, if it is
abbrev pub inlining_of : Message → Option Inlining
inlining_of (keywords ps) = inlining (keyword_names ps)
inlining_of _ = None

-- the first if the message is inlined, else the second
abbrev pub one_of : Bool → List Line → List Line → List Line
one_of true a b = a
one_of false a b = b

-- a message whose receiver stays: the receiver is repeated, and the answer dropped
abbrev pub kept : ℕ → List Line → List Line
kept d sent = line d repeat ∷ (sent ++ line (d + 1) drop ∷ [])

-- The code of an expression with d operands before it. It leaves one more.
abbrev mutual
  pub code : ℕ → Expression → List Line
  code d (Expression.number value place minus) = line d (literal (Int value)) ∷ []
  code d (Expression.symbol n) = line d (symbol n.text) ∷ []
  code d (name n) = line d (variable n) ∷ []
  code d (parenthesis opening e closing) = code d e
  code d (empty_block opening closing) = line d (literal Nil) ∷ []
  code d (block opening ss closing) = statements_value d ss
  code d (send e m) =
      one_of (is_inlined e m)
      (inlined d (inlining_of m) (code d e) (blocks d m))
      (code d e ++ sent (is_super e) (d + 1) m)
  code d (cascade e m ms) = code d e ++ (kept (d + 1) (sent false (d + 2) m) ++ further_sent (d + 1) ms)
  code d (Expression.assign n place e) = code d e ++ line (d + 1) (store n) ∷ []

  -- a message to the topmost of d operands
  pub sent : Bool → ℕ → Message → List Line
  sent up d (unary n) = line d (to up n.text 0) ∷ []
  sent up d (Message.binary n e) = code d e ++ line (d + 1) (to up n.text 1) ∷ []
  sent up d (keywords ps) = arguments d ps ++ line (d + count ps) (to up (joined ps) (count ps)) ∷ []

  -- the arguments in order; each is pushed above those before it
  pub arguments : ℕ → Parts → List Line
  arguments d no_parts = []
  arguments d (part n e ps) = code d e ++ arguments (d + 1) ps

  -- the codes of the blocks of a message
  pub blocks : ℕ → Message → List (List Line)
  blocks d (unary n) = []
  blocks d (Message.binary n e) = []
  blocks d (keywords ps) = part_blocks d ps

  pub part_blocks : ℕ → Parts → List (List Line)
  part_blocks d no_parts = []
  part_blocks d (part n e ps) = code d e ∷ part_blocks d ps

  -- the further messages of a cascade; the receiver stays for all but the last
  pub further_sent : ℕ → Further → List Line
  further_sent d no_further = []
  further_sent d (further place m no_further) = sent false d m
  further_sent d (further place m (further after next ms)) =
      kept d (sent false (d + 1) m)
      ++ further_sent d (further after next ms)

  -- the value of a block's statements is that of the last one; a return counts as leaving one operand
  pub statements_value : ℕ → Statements → List Line
  statements_value d (last e period) = code d e
  statements_value d (answer caret e period) = code d e ++ line (d + 1) return ∷ []
  statements_value d (statement e period ss) = code d e ++ line (d + 1) drop ∷ statements_value d ss

-- the statements of a method: each value is dropped; after the last one, if it has no caret, the receiver is answered
abbrev pub body : Statements → List Line
body (last e period) = code 0 e ++ line 1 drop ∷ line 0 receiver ∷ line 1 return ∷ []
body (answer caret e period) = code 0 e ++ line 1 return ∷ []
body (statement e period ss) = code 0 e ++ line 1 drop ∷ body ss

-- the code of a method, with its depths
abbrev pub method_code : Method → List Line
method_code m = of_body m.body
  where
    of_body : Option Statements → List Line
    of_body None = line 0 receiver ∷ line 1 return ∷ []
    of_body (Some ss) = body ss
