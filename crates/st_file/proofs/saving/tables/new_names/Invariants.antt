use Rattle.std.proofs.Common.{false, drop, map}
use Rattle.serde_json.specs.Data.{string}
use Rattle.serde_json.specs.View.{items_of}
use Rattle.serde_json.specs.Written.{items_text}
use Rattle.st_file.specs.declared.saving.text_writer.TextWriter.{TextWriter}
use Rattle.st_file.specs.TextWriters.{DeviceView, PutsTo, device_view}
use Rattle.st_file.proofs.saving.tables.new_names.Given as goal

-- whatever puts the names that are left, and the closing bracket, puts all names after the kernel's
abbrev pub invariant-loop-number : goal.invariant-loop-number
invariant-loop-number g l =
    let device = device_view g.O.Output.contents g.O.Output.failures g.O.Output.flushes in
    (d : DeviceView) (w : TextWriter)
    → PutsTo (device l.output) d l.writer w (items_text l.later (items_of (map string (drop l.number l.names))))
    → PutsTo (device l.initial.output) d l.initial.writer w (items_text false (items_of (map string (drop 22 l.names))))
