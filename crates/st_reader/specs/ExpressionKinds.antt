-- What an expression is by itself, and what it assigns.
use Rattle.std.specs.Prelude.{ℕ, List, [], ◌∷◌, ◌&&◌, not, Bool, true, false, codes}
use Rattle.std.specs.List.{list_all}
use Rattle.std.specs.Str.{bytes_eq}
use Rattle.st_reader.specs.declared.rules.alone.Alone.{Alone as Sort}
use Rattle.st_reader.specs.declared.rules.alone.Alone.TheVariants.{Block, Super, Other}
use Rattle.st_reader.specs.declared.trees.Target.{Target}
use Rattle.st_reader.specs.declared.trees.Expression.{Expression as Written, out-Expression}
use Rattle.st_reader.specs.TreeViews.{chain_view, cascaded, seen_cascade}
use Rattle.st_reader.specs.Inlining.{is_loose}
use Rattle.st_reader.specs.WellFormed.{may_change}
use Rattle.st_reader.specs.Syntax.{Expression, empty_block, block, name}

-- `super`, or another name
abbrev pub name_alone : Bool → Sort
name_alone true = Super
name_alone false = Other

-- a block, `super`, or another expression
abbrev pub expression_kind : Expression → Sort
expression_kind (empty_block opening closing) = Block
expression_kind (block opening ss closing) = Block
expression_kind (name n) = name_alone (bytes_eq n.text (codes "super"))
expression_kind _ = Other

-- the value of an expression, without its assignments
abbrev pub value_of : Written → Expression
value_of x = cascaded (chain_view (out-Expression x).receiver) (seen_cascade (out-Expression x).cascade)

-- a target is a variable other than an argument
abbrev pub is_variable : List (List ℕ) → Target → Bool
is_variable fixed t = may_change fixed t.name

-- if there are targets, each is a variable other than an argument, and the value is neither a block nor `super`
abbrev pub assigns_well : List (List ℕ) → List Target → Expression → Bool
assigns_well fixed [] e = true
assigns_well fixed (t ∷ ts) e = not (is_loose e) && list_all (is_variable fixed) (t ∷ ts)

-- an expression assigns nothing, or only what it may to what it may
abbrev pub may_assign : List (List ℕ) → Written → Bool
may_assign fixed x = assigns_well fixed (out-Expression x).targets (value_of x)
