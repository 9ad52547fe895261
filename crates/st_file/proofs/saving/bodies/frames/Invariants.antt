use Rattle.std.proofs.Common.{false, ◌++◌, [], ◌∷◌, drop, map}
use Rattle.serde_json.specs.View.{items_of}
use Rattle.serde_json.specs.Written.{items_text}
use Rattle.st_file.specs.BodyJson.{frame_json}
use Rattle.st_file.specs.declared.saving.text_writer.TextWriter.{TextWriter}
use Rattle.st_file.specs.TextWriters.{DeviceView, PutsTo, device_view}
use Rattle.st_file.proofs.saving.bodies.frames.Given as goal

-- whatever puts the frames that are left, and the closing bracket, puts all frames
abbrev pub invariant-loop-place : goal.invariant-loop-place
invariant-loop-place g l =
    let device = device_view g.O.Output.contents g.O.Output.failures g.O.Output.flushes in
    (d : DeviceView) (w : TextWriter)
    → PutsTo (device l.output) d l.writer w (items_text l.later (items_of (map (frame_json l.table.names.now l.table.version.now) (drop l.place l.stack.callers ++ l.stack.running ∷ []))))
    → PutsTo (device l.initial.output) d l.initial.writer w (items_text false (items_of (map (frame_json l.table.names.now l.table.version.now) (l.stack.callers ++ l.stack.running ∷ []))))
