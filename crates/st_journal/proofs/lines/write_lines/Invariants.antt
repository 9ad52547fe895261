use Rattle.std.proofs.Common.{drop, take}
use Rattle.std.specs.Prelude.{All}
use Rattle.st_file.specs.declared.saving.text_writer.TextWriter.{TextWriter}
use Rattle.st_file.specs.TextWriters.{DeviceView, PutsTo, device_view}
use Rattle.st_journal.specs.EntryLines.{entries_text}
use Rattle.st_journal.specs.Telling.{WasWritten}
use Rattle.st_journal.proofs.lines.write_lines.Given as goal

-- whatever puts the lines that are left puts all lines; and the entries before were written
abbrev pub invariant-loop-entry : goal.invariant-loop-entry
invariant-loop-entry g l =
    let device = device_view g.O.Output.contents g.O.Output.failures g.O.Output.flushes in
    ((d : DeviceView) (w : TextWriter)
    → PutsTo (device l.output) d l.writer w (entries_text l.names l.version (drop l.entry-index l.entries))
    → PutsTo (device l.initial.output) d l.initial.writer w (entries_text l.names l.version l.entries))
    × All (WasWritten l.names l.version) (take l.entry-index l.entries)
