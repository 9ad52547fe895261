use Rattle.std.proofs.Common.{rules, sym, subst, ◌≡◌, None, Option}
use Rattle.std.specs.Option.{IfSome}
use Rattle.st_turn.specs.Claims.{ClaimView}
use Rattle.st_image.specs.Images.{world}
use Rattle.st_image.specs.GoingOn.{FitsClaim}
use Rattle.st_image.specs.KeptEdits.{KeepsBeginning}
use Rattle.st_system.specs.SystemWorkers.{WorkerView}
use Rattle.st_image.proofs.Following.{kept_later}
use Rattle.st_system.proofs.system_worker.SystemWorker.commit.Goals as goal

pub returns-in-Ok-clause-fits : goal.returns-in-Ok-clause-fits
returns-in-Ok-clause-fits g c =
    let before = (world c.args.image.now).edits in
    let after = (world c.commit.new.image).edits in
    let kept = subst (λ (s : WorkerView g.row.G.Denot). KeepsBeginning before s.caches) (sym c.self.view_is) c.requires.kept in
    let gone : c.take.new.self ≡ None = search rules in
    record {
      claim = subst (λ (o : Option ClaimView). IfSome o (FitsClaim c.commit.new.image)) (sym gone) tt;
      kept = kept_later c.self.inside.worker before after c.in-Ok.ensures.later.edits kept;
    }
