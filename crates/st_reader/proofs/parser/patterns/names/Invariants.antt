use Rattle.std.proofs.Common.{◌≡◌, length}
use Rattle.st_reader.specs.Lexemes.{tokens_of}
use Rattle.st_reader.specs.Parser.{names_of}
use Rattle.st_reader.proofs.Rows.{ahead}
use Rattle.st_reader.proofs.parser.patterns.names.Given as goal

abbrev pub invariant-loop-first : goal.invariant-loop-first
invariant-loop-first l = names_of (tokens_of l.source l.fn.lexemes) ≡ ahead l.names.items (names_of (tokens_of l.source l.rest))

abbrev pub decreases-loop-first : goal.decreases-loop-first
decreases-loop-first l = length l.rest
