use Rattle.std.proofs.Common.{◌+◌, length, sym}
use Rattle.std.proofs.Math.Seq.{drop-length}
use Rattle.std.proofs.lemmas.List.{take_rest}
use Rattle.st_journal.proofs.LinesCut.{line_at, line_whole}
use Rattle.st_journal.proofs.redoing.lines.first_line.Goals as goal

pub returns-in-Some-clause-line : goal.returns-in-Some-clause-line
returns-in-Some-clause-line c = rw (take_rest c.args.text.now (c.in-Some.end + 1)) (line_at c.args.text.now c.in-Some.end (sym c.in-Some.ensures))

pub returns-in-None-clause-line : goal.returns-in-None-clause-line
returns-in-None-clause-line c =
    let text = c.args.text.now in
    rw (take_rest text (length text), drop-length text) (line_whole text c.requires (sym c.in-None.ensures))
