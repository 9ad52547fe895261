use Rattle.st_file.proofs.TextWriting.{puts_then}
use Rattle.st_journal.specs.Headers.{header_line}
use Rattle.st_journal.proofs.LinesWritten.{written}
use Rattle.st_journal.proofs.headers.write_line.Goals as goal

pub returns : goal.returns
returns g c =
    let new = c.new-writer.ensures in
    let all = puts_then c.write.ensures c.put.ensures in
    written c.finish.result (header_line c.args.digest.now c.args.capacity) new.unfailed new.nothing.0 new.nothing.1 all.sends c.finish.ensures
