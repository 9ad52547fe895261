use Rattle.std.proofs.Common.{take, All}
use Rattle.st_file.specs.Ranges.{FrameIsInRange}
use Rattle.st_file.proofs.ranges.waiting_in_range.Given as goal

-- those so far
abbrev pub invariant-loop-place : goal.invariant-loop-place
invariant-loop-place l = All FrameIsInRange (take l.place l.stack.callers)
