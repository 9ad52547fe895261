use Rattle.std.proofs.Common.{◌≡◌, List, sym, subst}
use Rattle.std.specs.Option.{IfSome}
use Rattle.st_classes.specs.declared.edits.Edit.{Edit}
use Rattle.st_classes.specs.EditLists.{Begins}
use Rattle.st_image.specs.Images.{world}
use Rattle.st_turn.proofs.ClaimBeginnings.{runs_began}
use Rattle.st_image.proofs.KnownBodies.{knows_as}
use Rattle.st_script.specs.Runners.{Steps, floor_of}
use Rattle.st_script.proofs.SomeSteps.{quantum_some}
use Rattle.st_script.proofs.runner.work.Goals as goal

pub settle-settled-requires : goal.settle-settled-requires
settle-settled-requires c = λ known.
    let steps : Steps c.args.quantum c.args.worker.now c.args.claim c.run_unchecked-ran.result c.run_unchecked-ran.new.self c.run_unchecked-ran.new.claim = rw (← c.steps.ensures.same) c.run_unchecked-ran.ensures.runs in
    record {
      edits = subst (λ (es : List Edit). Begins es (world c.args.image.now).edits) (sym c.run_unchecked-ran.ensures.edits) c.requires.fits.edits;
      body = knows_as c.args.image.now c.args.claim c.run_unchecked-ran.new.claim (runs_began floor_of c.args.quantum steps.0 c.args.claim c.run_unchecked-ran.result c.run_unchecked-ran.new.self c.run_unchecked-ran.new.claim steps.2) c.requires.fits.body;
    }

pub returns-clause-works : goal.returns-clause-works
returns-clause-works c =
    let steps : Steps c.args.quantum c.args.worker.now c.args.claim c.run_unchecked-ran.result c.run_unchecked-ran.new.self c.run_unchecked-ran.new.claim = rw (← c.steps.ensures.same) c.run_unchecked-ran.ensures.runs in
    (c.run_unchecked-ran.result, c.run_unchecked-ran.new.claim, c.settle-settled.result, steps, c.settle-settled.ensures.settles, c.answer.ensures)

pub returns-clause-kept : goal.returns-clause-kept
returns-clause-kept c = subst (λ (es : List Edit). IfSome c.run_unchecked-ran.new.self.kept (λ k. k ≡ es)) c.run_unchecked-ran.ensures.edits c.run_unchecked-ran.ensures.stands.kept

pub returns-clause-some : goal.returns-clause-some
returns-clause-some c = λ busy.
    quantum_some c.answer.result c.run_unchecked-ran.result c.settle-settled.result c.steps.result c.args.worker.now c.args.claim c.run_unchecked-ran.new.self c.run_unchecked-ran.new.claim c.args.image.now c.settle-settled.new.image c.steps.ensures.some busy c.known.ensures c.run_unchecked-ran.ensures.runs c.settle-settled.ensures.settles c.answer.ensures
