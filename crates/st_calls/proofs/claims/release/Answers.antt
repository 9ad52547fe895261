use Rattle.st_image.proofs.CallsLater.{released_later}
use Rattle.st_calls.proofs.claims.release.Goals as goal

pub returns-clause-later : goal.returns-clause-later
returns-clause-later g c = released_later c.args.image.now c.release.new.self c.args.claim.actor c.release.ensures
