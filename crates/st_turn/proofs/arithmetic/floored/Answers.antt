use Rattle.st_turn.proofs.Flooring.{floored}
use Rattle.st_turn.proofs.arithmetic.floored.Goals as goal

pub returns : goal.returns
returns c = floored c.args.x c.args.y c.requires
