use Rattle.std.proofs.Common.{◌≡◌, length}
use Rattle.st_reader.specs.Lexemes.{tokens_of}
use Rattle.st_reader.specs.Parser.{targets_of}
use Rattle.st_reader.proofs.Rows.{ahead}
use Rattle.st_reader.proofs.parser.expressions.targets.Given as goal

abbrev pub invariant-loop-variable : goal.invariant-loop-variable
invariant-loop-variable l = targets_of (tokens_of l.source l.fn.lexemes) ≡ ahead l.targets.items (targets_of (tokens_of l.source l.rest))

abbrev pub decreases-loop-variable : goal.decreases-loop-variable
decreases-loop-variable l = length l.rest
