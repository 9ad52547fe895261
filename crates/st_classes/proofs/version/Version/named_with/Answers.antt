use Rattle.std.proofs.lemmas.Result.{IfOk-weaker}
use Rattle.st_classes.specs.declared.edits.Edit.TheVariants.{Reparent}
use Rattle.st_classes.proofs.Accepted.{reparent_keeps_names}
use Rattle.st_classes.proofs.version.Version.named_with.Goals as goal

pub returns-in-Reparent : goal.returns-in-Reparent
returns-in-Reparent c = rw c.in-Reparent.is (IfOk-weaker c.named_again-in-Reparent.result _ _ (λ named h. h (Reparent c.in-Reparent.class c.in-Reparent.parent) (reparent_keeps_names c.in-Reparent.class c.in-Reparent.parent)) c.named_again-in-Reparent.ensures)
