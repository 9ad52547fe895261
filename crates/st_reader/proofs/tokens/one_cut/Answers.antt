use Rattle.st_reader.proofs.Exact.{one_way}
use Rattle.st_reader.proofs.tokens.one_cut.Goals as goal

pub returns : goal.returns
returns c = one_way
