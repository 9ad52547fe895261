use Rattle.st_wire.proofs.Parts.{kept_consumes}
use Rattle.st_wire.proofs.streams.devices.read_from.Goals as goal

pub returns-in-Ok-clause-gives : goal.returns-in-Ok-clause-gives
returns-in-Ok-clause-gives g c = (kept_consumes _ _ _ _ c.loop.invariant c.in-Ok.ensures.bytes.0, c.in-Ok.ensures.bytes.1)
