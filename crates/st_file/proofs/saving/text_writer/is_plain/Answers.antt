use Rattle.std.proofs.Common.{arith}
use Rattle.json.proofs.Printed.Strings.{escape_byte_plain}
use Rattle.st_file.proofs.Escaping.{plain_more}
use Rattle.st_file.proofs.saving.text_writer.is_plain.Goals as goal

pub loop-byte-preserved : goal.loop-byte-preserved
loop-byte-preserved c =
    plain_more c.args.text.now c.loop-byte.byte-index 0 (omega (arith, c.loop-byte-test.true))
    (escape_byte_plain _ c.if-byte-eq34.false c.if-byte-eq92.false (omega (arith, c.if-byte-lt32.false))) c.loop-byte.invariant
