use Rattle.std.proofs.lemmas.Str.{is_utf8-from_IsUtf8}
use Rattle.st_file.proofs.saving.text_writer.TextWriter.word.Goals as goal

pub text-requires : goal.text-requires
text-requires g c = is_utf8-from_IsUtf8 c.as_bytes.result.now c.as_bytes.ensures.utf8
