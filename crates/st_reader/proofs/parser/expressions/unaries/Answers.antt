use Rattle.st_reader.proofs.Loops.{unaries_step, unaries_done}
use Rattle.st_reader.proofs.Seen.{unary_is}
use Rattle.st_reader.proofs.parser.expressions.unaries.Goals as goal

pub loop-first-preserved : goal.loop-first-preserved
loop-first-preserved c =
    unaries_step c.args.source.now c.args.lexemes.now c.loop-first.rest.now c.loop-first.messages.items c.push.new.self.items c.in-Some.first c.in-Some.after.now _ c.in_ok-selector.selector (unary_is _) c.in-Some.ensures.0 c.in-Some.ensures.1 c.in_ok-selector.ensures c.in-Ok.ensures.items c.loop-first.invariant

pub returns : goal.returns
returns c = unaries_done c.args.source.now c.args.lexemes.now c.loop-first.rest.now c.loop-first.messages.items c.in_default.ensures c.loop-first.invariant
