use Rattle.st_classes.proofs.Deepening.{depths_kernel}
use Rattle.st_classes.proofs.Kernels.{kernel_kept, kernel_sound, kernel_shown}
use Rattle.st_classes.proofs.version.Version.kernel.Goals as goal

pub invariant_of-result : goal.invariant_of-result
invariant_of-result c = rw (c.new-3.ensures.items, c.in_ok-named.ensures.ok, c.in_ok-depths.ensures.ok, c.in_ok-counts.ensures) (record { kept = kernel_kept; sound = kernel_sound; shown = kernel_shown c.in_ok-rows.rows c.in_ok-rows.ensures.shown; deep = depths_kernel; named = c.in_ok-rows.ensures.named })
