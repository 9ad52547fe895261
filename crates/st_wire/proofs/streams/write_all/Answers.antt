use Rattle.std.proofs.Common.{refl, ◌∙◌}
use Rattle.st_wire.proofs.Parts.{more_written, within_bytes}
use Rattle.st_wire.proofs.streams.write_all.Goals as goal

pub loop-done-preserved : goal.loop-done-preserved
loop-done-preserved g c =
    let one = c.in_ok-done.ensures in
    let so_far = c.loop-done.invariant in
    let bytes = c.args.bytes.now in
    record {
      within = within_bytes bytes c.loop-done.done _ so_far.within one.within;
      written = more_written _ _ _ bytes _ c.loop-done.done _ refl so_far.written one.writes;
      unfailed = one.unfailed ∙ so_far.unfailed;
      unflushed = one.unflushed ∙ so_far.unflushed;
    }
