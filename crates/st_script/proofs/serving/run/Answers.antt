use Rattle.std.proofs.Common.{◌+◌, ◌≤◌, arith}
use Rattle.st_script.proofs.Quanta.{few_steps, runs_more, runs_none, runs_stops}
use Rattle.st_script.proofs.serving.run.Goals as goal

pub returns-in-Ok-None : goal.returns-in-Ok-None
returns-in-Ok-None c =
    let none = rw c.in-Ok-None.field-0-is at c.in-Ok-None.ensures in
    runs_none _ _ _ _ _ _ _ c.loop-taken.invariant.runs c.loop-taken-test.true none.0 none.1

pub returns-in-Err : goal.returns-in-Err
returns-in-Err c = runs_stops _ _ _ _ _ _ _ _ c.loop-taken.invariant.runs c.loop-taken-test.true c.in-Err.ensures

pub loop-taken-preserved : goal.loop-taken-preserved
loop-taken-preserved c =
    let takes = rw c.in-Ok-Some.field-0-is at c.in-Ok-Some.ensures in
    let few : c.in-Ok-Some.count ≤ c.args.quantum + 1 = few_steps _ _ _ _ takes in
    let same = c.from-steps.ensures in
    record {
      runs = rw same (runs_more _ _ _ _ _ _ _ _ c.loop-taken.invariant.runs c.loop-taken-test.true takes);
      few = omega arith;
    }
