use Rattle.std.proofs.Common.{◌≡◌, ◌++◌, take}
use Rattle.st_log.specs.Device.{CrashesLeave}
use Rattle.st_log.specs.Lines.{whole_lines, lines_of, HasFirst}
use Rattle.st_log.specs.Logs.{IsReady}
use Rattle.st_log.proofs.logs.Log.append_all.Given as goal

abbrev pub invariant-loop-batch : goal.invariant-loop-batch
invariant-loop-batch g l = record {
  ready : IsReady g.D.Device.contents g.D.Device.may_leave l.self;
  lines : whole_lines (g.D.Device.contents l.self.device) ≡ whole_lines (g.D.Device.contents l.fn.self.device) ++ lines_of (take l.batch-index l.batches);
  so_far : CrashesLeave g.D.Device.moment g.D.Device.left_since l.fn.self.device l.self.device (HasFirst (whole_lines (g.D.Device.contents l.fn.self.device)) l.batches);
}
