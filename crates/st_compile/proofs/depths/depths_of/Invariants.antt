use Rattle.std.proofs.Common.{◌≡◌, map, take}
use Rattle.st_compile.specs.DraftViews.{line_of}
use Rattle.st_compile.proofs.depths.depths_of.Given as goal

abbrev pub invariant-loop-line : goal.invariant-loop-line
invariant-loop-line l = l.depths.items ≡ map (λ x. x.depth) (map line_of (take l.line-index l.lines))
