use Rattle.std.proofs.Common.{take}
use Rattle.st_system.specs.Acts.{Leads}
use Rattle.st_system.specs.Happening.{Happen}
use Rattle.st_system.specs.Schedules.{schedule}
use Rattle.st_system.specs.Segments.{HasSegments}
use Rattle.st_system.proofs.system.System.run.Given as goal

abbrev pub invariant-loop-event : goal.invariant-loop-event
invariant-loop-event g l = Leads (schedule l.fn.self) (take l.event-index l.events) (schedule l.self)
    × HasSegments l.fn.self.image l.self.image
    × Happen g.G.Guard.count g.G.Guard.floor g.G.Guard.raises l.fn.self (take l.event-index l.events) l.self
