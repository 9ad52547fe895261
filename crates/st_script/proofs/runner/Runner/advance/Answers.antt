use Rattle.std.proofs.Common.{Ok, subst}
use Rattle.st_script.specs.Runners.{RunnerView, TakesQuantum}
use Rattle.st_image.proofs.Following.{kept_claim}
use Rattle.st_script.proofs.Claims.{settled_keeps}
use Rattle.st_script.proofs.SomeSteps.{checkout_busy}
use Rattle.st_script.proofs.runner.Runner.advance.Goals as goal

pub work-result-requires-clause-follows : goal.work-result-requires-clause-follows
work-result-requires-clause-follows c = kept_claim c.self.inside.image c.check_out.new.image c.args.actor c.in_ok-claim.claim c.self.inside.worker c.in_ok-claim.ensures.takes.0.1 c.self.invariant

pub work-result-requires-clause-fits : goal.work-result-requires-clause-fits
work-result-requires-clause-fits c = c.in_ok-claim.ensures.fits

pub invariant_of-self-2 : goal.invariant_of-self-2
invariant_of-self-2 c =
    let works = c.work-result.ensures.works in
    settled_keeps c.self.inside.image c.check_out.new.image c.work-result.new.image c.args.actor c.in_ok-claim.claim works.1 works.2 c.work-result.new.worker c.known.ensures c.known-3.ensures c.in_ok-claim.ensures.takes.0.1 c.work-result.ensures.kept works.4

pub returns-clause-takes : goal.returns-clause-takes
returns-clause-takes c =
    let j : RunnerView = record { image = c.work-result.new.image; caches = c.work-result.new.worker } in
    subst (λ (i : RunnerView). TakesQuantum c.args.quantum i c.args.actor c.work-result.result j) c.self.view_is (Ok c.in_ok-claim.claim, c.check_out.new.image, c.in_ok-claim.ensures.takes, c.work-result.ensures.works)

pub returns-clause-some : goal.returns-clause-some
returns-clause-some c = c.work-result.ensures.some (checkout_busy c.self.inside.image c.check_out.new.image c.args.actor c.in_ok-claim.claim c.known.ensures c.in_ok-claim.ensures.takes.0.0 c.in_ok-claim.ensures.takes.0.1)
