use Rattle.std.specs.Io.KnownBytes.{Keeps}
use Rattle.st_wire.proofs.streams.devices.read_from.Given as goal

abbrev pub invariant-loop : goal.invariant-loop
invariant-loop g l = Keeps (g.R.Read.remaining l.initial.reader) (g.R.Read.remaining l.reader)
