use Rattle.std.proofs.lemmas.Result.{on_ok_weaker}
use Rattle.st_image.proofs.Following.{kept_later}
use Rattle.st_image.specs.Images.{world}
use Rattle.st_journal.proofs.Grown.{leads_grow}
use Rattle.st_journal.proofs.redoing.redo_next.Goals as goal

pub returns-clause-kept : goal.returns-clause-kept
returns-clause-kept g c =
    let i = c.args.image.now in
    let j = c.redo_by_kind-redone.new.image in
    on_ok_weaker c.redo_by_kind-redone.result (λ d. kept_later c.redo_by_kind-redone.new.worker (world i).edits (world j).edits (leads_grow i c.args.entry.now j c.known.ensures c.known-2.ensures d) c.redo_by_kind-redone.ensures.kept) c.redo_by_kind-redone.ensures.ok
