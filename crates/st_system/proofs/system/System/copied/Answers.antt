use Rattle.st_system.proofs.SystemWorkers.{all_later}
use Rattle.st_system.proofs.system.System.copied.Goals as goal

pub invariant_of-self : goal.invariant_of-self
invariant_of-self g c = all_later c.self.inside.image c.apply.new.image c.self.inside.workers.items c.apply.ensures.later c.self.invariant
