use Rattle.st_reader.proofs.Spelled.{one_reading}
use Rattle.st_reader.proofs.reader.one_reading.Goals as goal

pub returns : goal.returns
returns c = one_reading c.one_cut.ensures
