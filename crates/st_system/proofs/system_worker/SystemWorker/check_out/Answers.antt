use Rattle.std.proofs.Common.{sym, subst}
use Rattle.st_image.specs.Images.{world}
use Rattle.st_image.specs.KeptEdits.{KeepsBeginning}
use Rattle.st_system.specs.SystemWorkers.{WorkerView}
use Rattle.st_image.proofs.Following.{kept_later}
use Rattle.st_system.proofs.system_worker.SystemWorker.check_out.Goals as goal

pub returns-clause-fits : goal.returns-clause-fits
returns-clause-fits g c =
    let before = (world c.args.image.now).edits in
    let after = (world c.check_out.new.image).edits in
    let kept = subst (λ (s : WorkerView g.row.G.Denot). KeepsBeginning before s.caches) (sym c.self.view_is) c.requires.kept in
    record { claim = c.in_ok-claim.ensures.fits; kept = kept_later c.self.inside.worker before after c.in_ok-claim.ensures.later.edits kept }
