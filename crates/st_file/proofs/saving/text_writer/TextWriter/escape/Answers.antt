use Rattle.std.proofs.Common.{arith}
use Rattle.st_file.proofs.Escaping.{escape_more}
use Rattle.st_file.proofs.TextWriting.{sends_then}
use Rattle.st_file.proofs.saving.text_writer.TextWriter.escape.Goals as goal

pub loop-byte-preserved : goal.loop-byte-preserved
loop-byte-preserved g c =
    rw (escape_more c.args.text.now c.loop-byte.byte-index 0 (omega (arith, c.loop-byte-test.true))) (sends_then c.loop-byte.invariant (rw c.escaped-len.ensures.text at c.send.ensures))
