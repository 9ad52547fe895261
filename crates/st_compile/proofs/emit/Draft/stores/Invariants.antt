use Rattle.std.proofs.Common.{◌≡◌, ◌≤◌, ◌++◌, length, map}
use Rattle.st_compile.specs.DraftViews.{line_of}
use Rattle.st_compile.specs.DraftGrowth.{stores}
use Rattle.st_compile.proofs.emit.Draft.stores.Given as goal

abbrev pub invariant-loop-last : goal.invariant-loop-last
invariant-loop-last l = record {
  code : map line_of l.self.lines.items ++ stores l.fn.depth l.left ≡ map line_of l.initial.self.lines.items ++ stores l.fn.depth l.fn.targets;
  longer : length l.initial.self.lines.items ≤ length l.self.lines.items;
}

abbrev pub decreases-loop-last : goal.decreases-loop-last
decreases-loop-last l = length l.left
