use Rattle.st_journal.proofs.OneText.{reads_one, told_is_read}
use Rattle.st_journal.proofs.laws.texts_say_one.Goals as goal

pub returns : goal.returns
returns c = record { told = told_is_read; one = reads_one c.one_reading.ensures }
