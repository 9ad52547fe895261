use Rattle.std.proofs.Common.{false, drop, map}
use Rattle.serde_json.specs.View.{items_of}
use Rattle.serde_json.specs.Written.{items_text}
use Rattle.st_file.specs.EditJson.{edit_json}
use Rattle.st_file.specs.declared.saving.text_writer.TextWriter.{TextWriter}
use Rattle.st_file.specs.TextWriters.{DeviceView, PutsTo, device_view}
use Rattle.st_file.proofs.saving.tables.edits.Given as goal

-- whatever puts the edits that are left, and the closing bracket, puts all edits behind the opening bracket
abbrev pub invariant-loop-place : goal.invariant-loop-place
invariant-loop-place g l =
    let device = device_view g.O.Output.contents g.O.Output.failures g.O.Output.flushes in
    (d : DeviceView) (w : TextWriter)
    → PutsTo (device l.output) d l.writer w (items_text l.later (items_of (map (edit_json l.names l.version) (drop l.place l.version))))
    → PutsTo (device l.initial.output) d l.initial.writer w (items_text false (items_of (map (edit_json l.names l.version) l.version)))
