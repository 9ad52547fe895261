use Rattle.st_wire.proofs.Tidying.{put_keeps}
use Rattle.st_wire.proofs.told.Members.put.Goals as goal

pub invariant_of-self : goal.invariant_of-self
invariant_of-self c = put_keeps c.put.result _ _ c.self.inside.map.entries c.put.new.map.entries c.put.ensures.ok c.put.ensures.err c.told.invariant c.self.invariant
