use Rattle.st_wire.proofs.Parts.{kept_appends}
use Rattle.st_wire.proofs.streams.devices.write_to.Goals as goal

pub returns-in-Ok-clause-writes : goal.returns-in-Ok-clause-writes
returns-in-Ok-clause-writes g c = kept_appends _ _ _ _ c.loop.invariant c.in-Ok.ensures.bytes
