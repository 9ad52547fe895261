use Rattle.st_file.proofs.TextWriting.{puts_then}
use Rattle.st_journal.specs.EntryLines.{entry_line}
use Rattle.st_journal.proofs.LinesWritten.{written}
use Rattle.st_journal.proofs.lines.write_line.Goals as goal

pub returns-clause-line : goal.returns-clause-line
returns-clause-line g c =
    let new = c.new-writer.ensures in
    let all = puts_then c.write.ensures c.put.ensures in
    written c.finish.result (entry_line c.args.names.now c.args.version.now c.args.entry.now) new.unfailed new.nothing.0 new.nothing.1 all.sends c.finish.ensures

pub returns-clause-utf8 : goal.returns-clause-utf8
returns-clause-utf8 g c = c.write.ensures.utf8
