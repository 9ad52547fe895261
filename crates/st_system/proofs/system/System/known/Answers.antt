use Rattle.std.proofs.Common.{subst}
use Rattle.st_image.specs.RanTargets.{EachStepRan}
use Rattle.st_system.specs.SystemWorkers.{SystemView}
use Rattle.st_system.proofs.system.System.known.Goals as goal

pub returns-clause-sent : goal.returns-clause-sent
returns-clause-sent g c = subst (λ (X : SystemView g.row.G.Denot). EachStepRan X.image) c.self.view_is c.sends_ran.ensures
