use Rattle.st_journal.specs.EntryForms.{CanBeTold}
use Rattle.st_journal.specs.EntryLines.{SaysEntry, entry_line, entry_text}
use Rattle.st_log.specs.Lines.{IsLine}
use Rattle.st_journal.proofs.LinesSaid.{of_any, of_line, says_again}
use Rattle.st_journal.proofs.OneLine.{entry_is_one_line}
use Rattle.st_journal.proofs.lines.line_of.Goals as goal

pub returns-clause-one : goal.returns-clause-one
returns-clause-one c =
    let names = c.args.names.now in
    let edits = c.args.version.now in
    let entry = c.args.entry.now in
    of_line c.bytes_of.result (λ v. v.items) (entry_line names edits entry) IsLine c.bytes_of.ensures.line (entry_is_one_line names edits entry)

pub returns-clause-says : goal.returns-clause-says
returns-clause-says c =
    let names = c.args.names.now in
    let edits = c.args.version.now in
    let entry = c.args.entry.now in
    of_any c.bytes_of.result (CanBeTold names edits entry → SaysEntry names edits (entry_text names edits entry) entry)
    (λ can. says_again names edits entry c.known.ensures c.known-2.ensures.lawful c.bytes_of.ensures.utf8 can)
