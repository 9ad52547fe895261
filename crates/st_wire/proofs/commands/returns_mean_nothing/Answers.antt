use Rattle.st_wire.proofs.Returns.{returns_mean_nothing}
use Rattle.st_wire.proofs.commands.returns_mean_nothing.Goals as goal

pub returns : goal.returns
returns c = returns_mean_nothing
