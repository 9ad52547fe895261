use Rattle.std.proofs.Common.{◌+◌, ap, refl}
use Rattle.st_image.proofs.Following.{kept_none}
use Rattle.st_image.specs.Images.{world}
use Rattle.st_journal.proofs.Runs.{leads_more}
use Rattle.st_journal.proofs.redoing.redo_all.Goals as goal

pub loop-entry-preserved : goal.loop-entry-preserved
loop-entry-preserved g c = record {
  done = leads_more _ _ _ c.args.entries.now c.loop-entry.entry-index c.entry-item.result c.loop-entry-test.true c.entry-item.is c.loop-entry.invariant.done c.in-Ok.ensures.ok c.known.ensures;
  kept = c.in-Ok.ensures.kept;
  counted = ap (λ n. n + 1) c.loop-entry.invariant.counted;
}

pub loop-entry-init : goal.loop-entry-init
loop-entry-init g c = record { done = refl; counted = refl; kept = kept_none c.forget.new.self (world c.args.image.now).edits c.forget.ensures.kept }
