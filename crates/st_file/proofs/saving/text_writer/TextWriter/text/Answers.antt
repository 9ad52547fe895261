use Rattle.std.proofs.lemmas.Str.{IsUtf8-from_is_utf8}
use Rattle.json.proofs.Printed.Utf8.{IsUtf8-quoted}
use Rattle.st_file.proofs.TextWriting.{sends_then}
use Rattle.st_file.proofs.saving.text_writer.TextWriter.text.Goals as goal

pub returns : goal.returns
returns g c = record {
  sends = sends_then c.send.ensures (sends_then c.inside.ensures c.send-2.ensures);
  utf8 = IsUtf8-quoted c.args.text.now (IsUtf8-from_is_utf8 c.args.text.now c.requires);
}
