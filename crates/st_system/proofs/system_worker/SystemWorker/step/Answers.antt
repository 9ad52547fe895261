use Rattle.std.proofs.Common.{◌∙◌, ap, sym}
use Rattle.st_system.specs.SystemWorkers.{WorkerView}
use Rattle.st_system.proofs.SystemWorkers.{step_fits}
use Rattle.st_system.proofs.system_worker.SystemWorker.step.Goals as goal

pub returns-in-Some-clause-fits : goal.returns-in-Some-clause-fits
returns-in-Some-clause-fits g c = λ image h.
    step_fits image c.args.self.now c.take_one.new.worker c.in-Some.claim c.take_one.new.claim (ap (λ (s : WorkerView g.row.G.Denot). s.claim) (sym c.self.view_is) ∙ c.in-Some.is) c.take_one.ensures.began c.take_one.ensures.kept h
