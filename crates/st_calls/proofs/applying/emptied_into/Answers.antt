use Rattle.std.proofs.Common.{Ok, Err, Result, ap, refl}
use Rattle.st_classes.specs.declared.refusals.Refusal.{Refusal}
use Rattle.st_classes.specs.declared.refusals.Refusal.TheVariants.{NoMemory}
use Rattle.st_image.specs.declared.counts.Counts.{Counts}
use Rattle.st_calls.specs.declared.calls.Answer.{Answer}
use Rattle.st_calls.specs.declared.calls.Answer.TheVariants.{Counted}
use Rattle.st_calls.proofs.applying.emptied_into.Goals as goal

pub returns-in-Ok-clause-does : goal.returns-in-Ok-clause-does
returns-in-Ok-clause-does g c = (Ok tt, ap (λ (n : Counts). let r : Result Answer Refusal = Ok (Counted n) in r) c.counted.ensures.counts, c.in-Ok.ensures.ok)

pub returns-in-Err-clause-does : goal.returns-in-Err-clause-does
returns-in-Err-clause-does g c = (Err NoMemory, refl, (refl, c.in-Err.ensures.err.0))
