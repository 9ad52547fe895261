use Rattle.std.proofs.Common.{◌∙◌}
use Rattle.st_log.specs.Lines.{whole_lines, HasFirst}
use Rattle.st_log.proofs.Failing.{on_err}
use Rattle.st_log.proofs.Moments.{both, weaker}
use Rattle.st_log.proofs.Runs.{first_more, one_more}
use Rattle.st_log.proofs.logs.Log.append_all.Goals as goal

pub returns-in_err-append-clause-any_moment : goal.returns-in_err-append-clause-any_moment
returns-in_err-append-clause-any_moment g c =
    let lines = whole_lines (g.D.Device.contents c.args.self.now.device) in
    let i = c.loop-batch.invariant in
    let more = weaker g.D.Device.moment g.D.Device.left_since _ _ _ (HasFirst lines c.args.batches.now) c.append.ensures.any_moment
    (first_more lines _ _ c.args.batches.now c.loop-batch.batch-index c.batch-item.result c.loop-batch-test.true c.batch-item.is c.deref.ensures.value i.lines) in
    both g.D.Device.moment g.D.Device.left_since _ _ _ (HasFirst lines c.args.batches.now) i.so_far more

pub loop-batch-preserved : goal.loop-batch-preserved
loop-batch-preserved g c =
    let lines = whole_lines (g.D.Device.contents c.args.self.now.device) in
    let i = c.loop-batch.invariant in
    let more = weaker g.D.Device.moment g.D.Device.left_since _ _ _ (HasFirst lines c.args.batches.now) c.append.ensures.any_moment
    (first_more lines _ _ c.args.batches.now c.loop-batch.batch-index c.batch-item.result c.loop-batch-test.true c.batch-item.is c.deref.ensures.value i.lines) in
    record {
      ready = c.in_ok-append.ensures.ready;
      lines = c.in_ok-append.ensures.appended ∙ one_more lines _ _ c.args.batches.now c.loop-batch.batch-index c.batch-item.result c.loop-batch-test.true c.batch-item.is c.deref.ensures.value i.lines;
      so_far = both g.D.Device.moment g.D.Device.left_since _ _ _ (HasFirst lines c.args.batches.now) i.so_far more;
    }

pub returns-in_err-append-clause-torn : goal.returns-in_err-append-clause-torn
returns-in_err-append-clause-torn g c =
    let lines = whole_lines (g.D.Device.contents c.args.self.now.device) in
    let i = c.loop-batch.invariant in
    on_err c.from_residual.result (first_more lines _ _ c.args.batches.now c.loop-batch.batch-index c.batch-item.result c.loop-batch-test.true c.batch-item.is c.deref.ensures.value i.lines (g.D.Device.contents c.append.new.self.device) c.in_err-append.ensures.torn)
