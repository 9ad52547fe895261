use Rattle.std.proofs.Common.{◌≡◌, ◌-◌, ◌≤◌, length}
use Rattle.st_reader.specs.Lexemes.{tokens_of}
use Rattle.st_reader.specs.Parser.{in_front, parameters_of}
use Rattle.st_reader.proofs.parser.patterns.parameters.Given as goal

abbrev pub invariant-loop-keyword : goal.invariant-loop-keyword
invariant-loop-keyword l = (length l.parameters.items ≤ 8) × (parameters_of 8 (tokens_of l.source l.fn.lexemes) ≡ in_front l.parameters.items (parameters_of (8 - length l.parameters.items) (tokens_of l.source l.rest)))

abbrev pub decreases-loop-keyword : goal.decreases-loop-keyword
decreases-loop-keyword l = length l.rest
