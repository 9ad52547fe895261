use Rattle.std.proofs.Common.{length}
use Rattle.st_reader.proofs.Loops.{UnariesAre}
use Rattle.st_reader.proofs.parser.expressions.unaries.Given as goal

abbrev pub invariant-loop-first : goal.invariant-loop-first
invariant-loop-first l = UnariesAre l.source l.fn.lexemes l.messages.items l.rest

abbrev pub decreases-loop-first : goal.decreases-loop-first
decreases-loop-first l = length l.rest
