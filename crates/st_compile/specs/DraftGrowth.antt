-- The code of the parts of a draft.
use Rattle.std.specs.Prelude.{ℕ, ◌+◌, List, [], ◌∷◌, ◌++◌, Bool, true, false}
use Rattle.st_reader.specs.declared.trees.Span.{Span}
use Rattle.st_reader.specs.declared.trees.Target.{Target}
use Rattle.st_reader.specs.declared.rules.alone.Alone.{Alone}
use Rattle.st_reader.specs.declared.rules.alone.Alone.TheVariants.{Super, Other, Block as Bracketed}
use Rattle.st_reader.specs.Syntax.{Expression}
use Rattle.st_reader.specs.TreeViews.{chain_view}
use Rattle.st_compile.specs.declared.words.Branch.{Branch}
use Rattle.st_compile.specs.declared.words.Branch.TheVariants.{IfFalse, IfTrue}
use Rattle.st_compile.specs.declared.words.Arm.{Arm}
use Rattle.st_compile.specs.declared.words.Arm.TheVariants.{Block, Plain}
use Rattle.st_compile.specs.DraftCode.{Word, Line, line, drop, store, jump_false, jump_true}
use Rattle.st_compile.specs.Equations.{code, plain}

-- the conditional jump of a branch
abbrev pub branch_word : Branch → ℕ → Word
branch_word IfFalse = jump_false
branch_word IfTrue = jump_true

-- the code of an arm
abbrev pub arm_code : ℕ → Arm → List Line
arm_code d (Block c) = code d (chain_view c.now)
arm_code d (Plain v) = plain d v

-- the receiver is super
abbrev pub goes_up : Alone → Bool
goes_up Super = true
goes_up Bracketed = false
goes_up Other = false

-- statements whose values are dropped
abbrev pub dropped : ℕ → List (Expression × Span) → List Line
dropped d [] = []
dropped d (s ∷ ss) = code d s.0 ++ line (d + 1) drop ∷ dropped d ss

-- a value is stored in variables, the last one first
abbrev pub stores : ℕ → List Target → List Line
stores d [] = []
stores d (t ∷ ts) = stores d ts ++ line d (store t.name) ∷ []
