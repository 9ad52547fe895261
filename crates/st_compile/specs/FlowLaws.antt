-- Paths through the instructions of an expression.
use Rattle.std.specs.Prelude.{◌≡◌, ℕ, ◌+◌, ◌≤◌, List, length, map, slice_get, Some}
use Rattle.st_classes.specs.declared.instructions.Instruction.{Instruction}
use Rattle.st_classes.specs.OperandFlow.{flow_of, FlowPath, StaysInside}
use Rattle.st_reader.specs.Syntax.{Expression, Statements}
use Rattle.st_compile.specs.Equations.{code, statements_value}
use Rattle.st_compile.specs.NameResolution.{Scope, instructions_of}

-- On each path through the instructions that begins with the given number of operands, no instruction takes more
-- operands than there are, and each successor is an instruction or the end. A path that reaches the end has one more
-- operand. A path that comes back to the beginning, as a loop does after its body, has as many as before.
pub record LeavesOne (is : List Instruction) (operands : ℕ) : Type 0 where
  pub never_misses : (steps place left : ℕ) (i : Instruction)
      → FlowPath (map flow_of is) steps 0 operands place left
      → slice_get is place ≡ Some i
      → (flow_of i).takes ≤ left
  pub lands : (steps place left : ℕ) (i : Instruction)
      → FlowPath (map flow_of is) steps 0 operands place left
      → slice_get is place ≡ Some i
      → StaysInside (length is + 1) (flow_of i).goes place
  pub inside : (steps place left : ℕ) → FlowPath (map flow_of is) steps 0 operands place left → place ≤ length is
  pub one_more : (steps left : ℕ) → FlowPath (map flow_of is) steps 0 operands (length is) left → left ≡ operands + 1
  pub as_before : (steps left : ℕ) → FlowPath (map flow_of is) steps 0 operands 0 left → left ≡ operands

-- This holds of the instructions of every expression in a scope, whatever its names mean, also of inlined
-- conditionals and loops. It holds of the value of a block too.
pub record CodesLeaveOne : Type 0 where
  pub expressions : (names : List (List ℕ)) (scope : Scope) (operands : ℕ) (e : Expression) (is : List Instruction)
      → instructions_of names scope (code operands e) ≡ Some is
      → LeavesOne is operands
  pub blocks : (names : List (List ℕ)) (scope : Scope) (operands : ℕ) (ss : Statements) (is : List Instruction)
      → instructions_of names scope (statements_value operands ss) ≡ Some is
      → LeavesOne is operands
