use Rattle.std.proofs.Common.{take, All}
use Rattle.st_file.proofs.ranges.all_in_range.Given as goal

-- those so far
abbrev pub invariant-loop-part : goal.invariant-loop-part
invariant-loop-part g l = All g.P.Bounded.is_in_range (take l.part-index l.parts)
