-- The rules beyond the grammar, for blocks and `super`, for assignments, and for the names of variables.
use Rattle.std.specs.Prelude.{ℕ, ◌&&◌, ◌||◌, List, [], ◌∷◌, ◌++◌, Bool, true, not, Option, Some, None}
use Rattle.std.specs.List.{list_any}
use Rattle.std.specs.Str.{bytes_eq}
use Rattle.st_classes.specs.Selectors.{is_slot_name}
use Rattle.st_reader.specs.declared.trees.Name.{Name}
use Rattle.st_reader.specs.Inlining.{part_arguments, is_block, is_loose, is_inlined}
use Rattle.st_reader.specs.Variables.{locals_of, argument_texts, are_variables}
use Rattle.st_reader.specs.Syntax.{Method, Expression, Message, Parts, Further, Statements, parenthesis, empty_block, block, send, cascade, name, unary, keywords, no_parts, part, no_further, further, last, answer, statement}

-- the arguments of a message
abbrev pub arguments : Message → List Expression
arguments (unary n) = []
arguments (Message.binary n e) = e ∷ []
arguments (keywords ps) = part_arguments ps

-- the arguments of further messages
abbrev pub further_arguments : Further → List Expression
further_arguments no_further = []
further_arguments (further place m ms) = arguments m ++ further_arguments ms

-- the expressions of statements
abbrev pub sentences : Statements → List Expression
sentences (last e period) = e ∷ []
sentences (answer caret e period) = e ∷ []
sentences (statement e period ss) = e ∷ sentences ss

-- blocks are in inlined messages only, and `super` is only the receiver of a message outside cascades
abbrev pub is_well_placed : Expression → Bool
is_well_placed (send e m) = is_inlined e m || (not (is_block e) && not (list_any is_loose (arguments m)))
is_well_placed (cascade e m ms) =
    not (is_loose e)
    && not (list_any is_loose (arguments m))
    && not (list_any is_loose (further_arguments ms))
is_well_placed (parenthesis opening e closing) = not (is_loose e)
is_well_placed (block opening ss closing) = not (list_any is_loose (sentences ss))
is_well_placed (Expression.assign n place e) = not (is_loose e)
is_well_placed _ = true

-- the name of a variable other than an argument
abbrev pub may_change : List (List ℕ) → Name → Bool
may_change fixed n = is_slot_name n.text && not (list_any (bytes_eq n.text) fixed)

-- what is assigned to is a variable other than an argument
abbrev pub assigns_variable : List (List ℕ) → Expression → Bool
assigns_variable fixed (Expression.assign n place e) = may_change fixed n
assigns_variable fixed _ = true

-- an expression is where it may be, and assigns to a variable if it assigns
abbrev pub is_allowed : List (List ℕ) → Expression → Bool
is_allowed fixed e = is_well_placed e && assigns_variable fixed e

-- all expressions in an expression are allowed, itself included
module _ (fixed : List (List ℕ)) where
  abbrev mutual
    pub allowed : Expression → Bool
    allowed (parenthesis opening e closing) = is_allowed fixed (parenthesis opening e closing) && allowed e
    allowed (block opening ss closing) = is_allowed fixed (block opening ss closing) && statements_allowed ss
    allowed (send e m) = is_allowed fixed (send e m) && allowed e && message_allowed m
    allowed (cascade e m ms) = is_allowed fixed (cascade e m ms) && allowed e && message_allowed m && further_allowed ms
    allowed (Expression.assign n place e) = is_allowed fixed (Expression.assign n place e) && allowed e
    allowed (Expression.number value place minus) = true
    allowed (Expression.symbol n) = true
    allowed (name n) = true
    allowed (empty_block opening closing) = true

    pub message_allowed : Message → Bool
    message_allowed (unary n) = true
    message_allowed (Message.binary n e) = allowed e
    message_allowed (keywords ps) = parts_allowed ps

    pub parts_allowed : Parts → Bool
    parts_allowed no_parts = true
    parts_allowed (part n e ps) = allowed e && parts_allowed ps

    pub further_allowed : Further → Bool
    further_allowed no_further = true
    further_allowed (further place m ms) = message_allowed m && further_allowed ms

    pub statements_allowed : Statements → Bool
    statements_allowed (last e period) = allowed e
    statements_allowed (answer caret e period) = allowed e
    statements_allowed (statement e period ss) = allowed e && statements_allowed ss

-- all expressions in the statements of a method are allowed, and no statement is a block or `super` by itself
abbrev pub body_allowed : List (List ℕ) → Option Statements → Bool
body_allowed fixed None = true
body_allowed fixed (Some ss) = not (list_any is_loose (sentences ss)) && statements_allowed fixed ss

-- the variables of a method are well named, and its body is allowed
abbrev pub keeps_rules : Method → Bool
keeps_rules m = are_variables (locals_of m) && body_allowed (argument_texts m.pattern) m.body
