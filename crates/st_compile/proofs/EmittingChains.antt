-- Messages that are emitted one after another.
use Rattle.std.proofs.Common.{◌≡◌, ℕ, Bool, true, false, List, ◌++◌, map, refl}
use Rattle.std.specs.Prelude.{codes}
use Rattle.std.specs.Str.{bytes_eq}
use Rattle.st_reader.specs.declared.trees.Message.{Message as Sent}
use Rattle.st_reader.specs.declared.rules.alone.Alone.{Alone}
use Rattle.st_reader.specs.Syntax.{Expression, parenthesis, empty_block, block, send, cascade, name}
use Rattle.st_reader.specs.TreeViews.{message_view, sends}
use Rattle.st_reader.specs.Inlining.{is_super}
use Rattle.st_reader.specs.ExpressionKinds.{expression_kind, name_alone}
use Rattle.st_compile.specs.DraftCode.{Line}
use Rattle.st_compile.specs.Equations.{code}
use Rattle.st_compile.specs.DraftGrowth.{goes_up}
pub use Rattle.st_reader.proofs.Messages.{keyword_is}

pub goes_up_is : (e : Expression) → goes_up (expression_kind e) ≡ is_super e
goes_up_is (Expression.number value place minus) = refl
goes_up_is (Expression.symbol n) = refl
goes_up_is (name n) = named (bytes_eq n.text (codes "super"))
  where
    named : (b : Bool) → goes_up (name_alone b) ≡ b
    named true = refl
    named false = refl
goes_up_is (parenthesis opening e closing) = refl
goes_up_is (empty_block opening closing) = refl
goes_up_is (block opening ss closing) = refl
goes_up_is (send e m) = refl
goes_up_is (cascade e m ms) = refl
goes_up_is (Expression.assign n place e) = refl

-- the code of a receiver stands behind a front, and so many messages are left
pub record ChainAt (d : ℕ) (all : Expression) (front now : List Line) (receiver : Alone) (left : List Sent) : Type 0 where
  pub e : Expression
  pub is : expression_kind e ≡ receiver
  pub rest : sends e (map message_view left) ≡ all
  pub lines : now ≡ front ++ code d e
