use Rattle.std.proofs.Common.{rules}
use Rattle.json.specs.Print.{escape_byte}
use Rattle.st_file.proofs.saving.text_writer.escaped.Goals as goal

pub returns-then-letter-gt0-clause-text : goal.returns-then-letter-gt0-clause-text
unfolding escape_byte
returns-then-letter-gt0-clause-text c = search rules

pub returns-then-byte-lt32-clause-text : goal.returns-then-byte-lt32-clause-text
unfolding escape_byte
returns-then-byte-lt32-clause-text c = search rules

pub returns-clause-text : goal.returns-clause-text
unfolding escape_byte
returns-clause-text c = search rules
