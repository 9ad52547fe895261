use Rattle.std.proofs.Common.{arith}
use Rattle.st_wire.proofs.Writing.{one_site}
use Rattle.st_wire.proofs.replies.write_reports.Goals as goal

pub loop-site-preserved : goal.loop-site-preserved
loop-site-preserved c =
    one_site c.args.sites.now c.loop-site.site-index c.site-item.result c.args.writer.now c.loop-site.writer c.write.new.writer (omega arith) c.site-item.is c.loop-site.invariant c.in_ok-write.ensures
