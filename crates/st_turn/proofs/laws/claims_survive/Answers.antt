use Rattle.st_turn.proofs.ClaimsLater.{claims_survive}
use Rattle.st_turn.proofs.laws.claims_survive.Goals as goal

pub returns : goal.returns
returns c = claims_survive
