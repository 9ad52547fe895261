use Rattle.std.proofs.Common.{◌≡◌, ◌≤◌, ◌-◌, length, take}
use Rattle.std.specs.Io.KnownBytes.{Appends}
use Rattle.st_wire.proofs.streams.write_all.Given as goal

abbrev pub invariant-loop-done : goal.invariant-loop-done
invariant-loop-done g l = record {
  within : l.done ≤ length l.bytes;
  written : Appends (g.O.Output.contents l.initial.output) (g.O.Output.contents l.output) (take l.done l.bytes);
  unfailed : g.O.Output.failures l.output ≡ g.O.Output.failures l.initial.output;
  unflushed : g.O.Output.flushes l.output ≡ g.O.Output.flushes l.initial.output;
}

abbrev pub decreases-loop-done : goal.decreases-loop-done
decreases-loop-done g l = length l.bytes - l.done
