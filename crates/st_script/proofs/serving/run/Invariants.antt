use Rattle.std.proofs.Common.{◌-◌, ◌*◌, ◌≤◌}
use Rattle.st_script.proofs.Quanta.{RunsOn}
use Rattle.st_script.proofs.serving.run.Given as goal

abbrev pub invariant-loop-taken : goal.invariant-loop-taken
invariant-loop-taken l = record {
  runs : RunsOn l.quantum l.quanta l.initial.runner (l.quanta - l.taken) l.runner l.taken l.steps;
  few : l.steps ≤ 1025 * l.taken;
}
