use Rattle.std.proofs.Common.{take}
use Rattle.json.specs.Print.{escape}
use Rattle.st_file.specs.TextWriters.{Sends}
use Rattle.st_file.proofs.saving.text_writer.TextWriter.escape.Given as goal

-- what stands for the bytes so far was put
abbrev pub invariant-loop-byte : goal.invariant-loop-byte
invariant-loop-byte g l =
    Sends (g.O.Output.contents) (g.O.Output.failures) (g.O.Output.flushes) l.initial.output l.output l.initial.self l.self (escape (take l.byte-index l.text))
