use Rattle.std.proofs.Common.{ap, sym, ◌∙◌, Some}
use Rattle.st_classes.specs.declared.refusals.Refusal.{Refusal}
use Rattle.st_classes.proofs.Refusing.{refusal_other}
use Rattle.st_classes.proofs.version.Version.with_edit.Goals as goal

pub returns-in-Some-clause-memory : goal.returns-in-Some-clause-memory
returns-in-Some-clause-memory c = λ m. absurd (refusal_other c.args.self.now c.args.edit (sym c.refusal.ensures ∙ c.in-Some.is ∙ ap (λ (r : Refusal). Some r) m))
