use Rattle.std.proofs.Common.{refl, Ok, Err}
use Rattle.st_classes.specs.declared.refusals.Refusal.TheVariants.{NoMemory}
use Rattle.st_turn.proofs.ClaimBeginnings.{step_began}
use Rattle.std.specs.declared.alloc.AllocError.{AllocError}
use Rattle.st_classes.specs.declared.refusals.Refusal.{Refusal}
use Rattle.st_image.proofs.Following.{begins_same, kept_of_claim}
use Rattle.st_system.proofs.ClaimsSeen.{began_same, steps_as, takes_none, takes_one}
use Rattle.st_system.proofs.system_worker.take_one.Goals as goal

pub returns-in-Ok-clause-takes : goal.returns-in-Ok-clause-takes
returns-in-Ok-clause-takes g c = (Ok c.in-Ok.stop, refl, takes_one g.G.Guard.floor c.in-Ok.ensures.steps.0 c.step_unchecked.new.self c.args.claim.now c.step_unchecked.new.claim c.in-Ok.stop c.in-Ok.ensures.steps.2)

pub returns-in-Ok-clause-kept : goal.returns-in-Ok-clause-kept
returns-in-Ok-clause-kept g c = kept_of_claim c.step_unchecked.new.self c.step_unchecked.new.claim.edits c.step_unchecked.new.claim.edits c.in-Ok.ensures.stands.kept (begins_same c.step_unchecked.new.claim.edits)

pub returns-in-Err-clause-takes : goal.returns-in-Err-clause-takes
returns-in-Err-clause-takes g c = (Err NoMemory, refl, takes_none c.args.claim.now c.step_unchecked.new.claim c.in-Err.ensures.steps.2)

pub returns-in-Ok-clause-began : goal.returns-in-Ok-clause-began
returns-in-Ok-clause-began g c = step_began {E = AllocError} g.G.Guard.floor c.in-Ok.ensures.steps.0 c.args.claim.now (Ok c.in-Ok.stop) c.step_unchecked.new.self c.step_unchecked.new.claim c.in-Ok.ensures.steps.2

pub returns-in-Err-clause-began : goal.returns-in-Err-clause-began
returns-in-Err-clause-began g c = began_same c.args.claim.now c.step_unchecked.new.claim c.in-Err.ensures.steps.2

pub returns-in-Ok-clause-whole : goal.returns-in-Ok-clause-whole
returns-in-Ok-clause-whole g c = record {
  moved = c.in-Ok.ensures.steps.0;
  stop = Ok c.in-Ok.stop;
  answered = refl;
  moves = c.in-Ok.ensures.steps.1;
  steps = steps_as AllocError Refusal g.G.Guard.floor c.in-Ok.ensures.steps.0 c.step_unchecked.new.self c.args.claim.now c.step_unchecked.new.claim c.in-Ok.stop c.in-Ok.ensures.steps.2;
}

pub returns-in-Err-clause-whole : goal.returns-in-Err-clause-whole
returns-in-Err-clause-whole g c = record {
  moved = c.in-Err.ensures.steps.0;
  stop = Err NoMemory;
  answered = refl;
  moves = c.in-Err.ensures.steps.1;
  steps = c.in-Err.ensures.steps.2;
}
