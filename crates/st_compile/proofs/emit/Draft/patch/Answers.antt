use Rattle.std.proofs.lemmas.List.{map-set}
use Rattle.st_compile.specs.DraftViews.{line_of}
use Rattle.st_compile.proofs.emit.Draft.patch.Goals as goal

pub returns-clause-code : goal.returns-clause-code
returns-clause-code c = map-set line_of c.args.self.now.lines.items c.args.place (record { depth = c.args.depth; word = c.args.word })
