use Rattle.std.proofs.Common.{subst}
use Rattle.st_image.specs.Scheduling.{IsNextReady}
use Rattle.st_script.specs.Runners.{RunnerView}
use Rattle.st_script.proofs.runner.Runner.take_quantum.Goals as goal

pub returns-in-Ok : goal.returns-in-Ok
returns-in-Ok c =
    let a = c.in-Some.actor in
    (a, subst (λ (i : RunnerView). IsNextReady i.image a.0) c.self.view_is c.in-Some.ensures.some, c.in-Ok.ensures.takes, c.in-Ok.ensures.some)

pub returns-in-Err : goal.returns-in-Err
returns-in-Err c =
    let a = c.in-Some.actor in
    (a, subst (λ (i : RunnerView). IsNextReady i.image a.0) c.self.view_is c.in-Some.ensures.some, c.in-Err.ensures.takes, tt)
