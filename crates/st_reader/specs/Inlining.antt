-- The messages that are inlined: certain keywords, with blocks as arguments and a receiver of the right sort.
use Rattle.std.specs.Prelude.{ℕ, ◌&&◌, ◌||◌, List, [], ◌∷◌, Bool, true, false, not, Option, Some, None, codes}
use Rattle.std.specs.List.{list_all}
use Rattle.std.specs.Str.{bytes_eq}
use Rattle.st_reader.specs.declared.inlining.Inlining.{Inlining}
use Rattle.st_reader.specs.declared.inlining.Inlining.TheVariants.{IfTrue, IfFalse, IfTrueIfFalse, IfFalseIfTrue, And, Or, WhileTrue, WhileFalse}
use Rattle.st_reader.specs.Syntax.{Expression, Message, Parts, empty_block, block, name, keywords, no_parts, part}

-- this inlining if the texts are equal, and else the rest
abbrev pub if_text : List ℕ → List ℕ → Inlining → Option Inlining → Option Inlining
if_text text other inlining rest = if_so (bytes_eq text other)
  where
    if_so : Bool → Option Inlining
    if_so true = Some inlining
    if_so false = rest

-- the inlining of a message with one keyword
abbrev pub inlining_of_one : List ℕ → Option Inlining
inlining_of_one text =
    if_text text (codes "ifTrue:") IfTrue (if_text text (codes "ifFalse:") IfFalse (if_text text (codes "and:") And
    (if_text text (codes "or:") Or
    (if_text text (codes "whileTrue:") WhileTrue
    (if_text text (codes "whileFalse:") WhileFalse None)))))

-- the inlining of a message with two keywords
abbrev pub inlining_of_two : List ℕ → List ℕ → Option Inlining
inlining_of_two text next =
    both
    (bytes_eq text (codes "ifTrue:") && bytes_eq next (codes "ifFalse:"))
    (bytes_eq text (codes "ifFalse:") && bytes_eq next (codes "ifTrue:"))
  where
    both : Bool → Bool → Option Inlining
    both true other = Some IfTrueIfFalse
    both false true = Some IfFalseIfTrue
    both false false = None

-- how a message with these keywords is inlined, if it is
abbrev pub inlining : List (List ℕ) → Option Inlining
inlining (text ∷ []) = inlining_of_one text
inlining (text ∷ next ∷ []) = inlining_of_two text next
inlining _ = None

-- a loop: its receiver is its condition
abbrev pub is_loop : Inlining → Bool
is_loop WhileTrue = true
is_loop WhileFalse = true
is_loop _ = false

-- a block
abbrev pub is_block : Expression → Bool
is_block (empty_block opening closing) = true
is_block (block opening ss closing) = true
is_block _ = false

-- the name `super`
abbrev pub is_super : Expression → Bool
is_super (name n) = bytes_eq n.text (codes "super")
is_super _ = false

-- an expression that may not be used by itself
abbrev pub is_loose : Expression → Bool
is_loose e = is_block e || is_super e

-- the receiver of an inlined message is a block for a loop, and neither a block nor `super` for the others
abbrev pub suits_receiver : Option Inlining → Expression → Bool
suits_receiver None e = false
suits_receiver (Some i) e = by_loop (is_loop i)
  where
    by_loop : Bool → Bool
    by_loop true = is_block e
    by_loop false = not (is_loose e)

-- the keywords of a message
abbrev pub keyword_names : Parts → List (List ℕ)
keyword_names no_parts = []
keyword_names (part n e ps) = n.text ∷ keyword_names ps

-- the arguments of keywords
abbrev pub part_arguments : Parts → List Expression
part_arguments no_parts = []
part_arguments (part n e ps) = e ∷ part_arguments ps

-- a message is inlined if each argument is a block, and its receiver is of the right sort
abbrev pub is_inlined : Expression → Message → Bool
is_inlined e (keywords ps) = suits_receiver (inlining (keyword_names ps)) e && list_all is_block (part_arguments ps)
is_inlined e _ = false
