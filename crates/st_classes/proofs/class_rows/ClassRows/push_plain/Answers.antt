use Rattle.std.proofs.lemmas.Result.{on_ok_weaker}
use Rattle.st_classes.proofs.Kernels.{zip_push}
use Rattle.st_classes.proofs.class_rows.ClassRows.push_plain.Goals as goal

pub returns : goal.returns
returns c = on_ok_weaker c.push.result (λ e ds h. rw e (zip_push _ ds c.in_ok-row.row _ h c.in_ok-row.ensures)) c.push.ensures
