use Rattle.std.proofs.Common.{subst}
use Rattle.st_system.specs.SystemWorkers.{SystemView}
use Rattle.st_system.specs.Segments.{IsSegment}
use Rattle.st_system.proofs.system.System.known_segment.Goals as goal

pub returns : goal.returns
returns g c =
    subst (λ (X : SystemView g.row.G.Denot). IsSegment X.image) c.self.view_is (record { replay = c.known.ensures; delivered = c.delivered.ensures; sent = c.sends_ran.ensures })
