use Rattle.std.proofs.Common.{sym, ap, ◌∙◌, List}
use Rattle.st_reader.specs.declared.trees.Name.{Name}
use Rattle.st_reader.specs.Lexemes.{tokens_of}
use Rattle.st_reader.specs.Parser.{names_of}
use Rattle.st_reader.proofs.Patterns.{names_step, names_done}
use Rattle.st_reader.proofs.parser.patterns.names.Goals as goal

pub loop-first-preserved : goal.loop-first-preserved
loop-first-preserved c =
    let s = c.args.source.now in
    names_step s (names_of (tokens_of s c.args.lexemes.now)) c.loop-first.names.items c.push.new.self.items c.loop-first.rest.now c.in-Some.first c.in-Some.after.now c.in_ok-name.name c.in-Some.ensures.0 c.in-Some.ensures.1 c.in_ok-name.ensures c.in-Ok.ensures.items c.loop-first.invariant

pub returns : goal.returns
returns c =
    let s = c.args.source.now in
    names_done s (names_of (tokens_of s c.args.lexemes.now)) c.loop-first.names.items c.loop-first.rest.now c.in_default.ensures c.loop-first.invariant ∙ ap (λ (l : List Name). (l, tokens_of s c.loop-first.rest.now)) (sym c.from_vec.ensures)
