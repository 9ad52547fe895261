use Rattle.std.proofs.Common.{◌≡◌, map, take}
use Rattle.st_compile.specs.DraftViews.{line_of}
use Rattle.st_compile.specs.CompileRules.{least_of, unknown}
use Rattle.st_compile.specs.Scopes.{scope_seen}
use Rattle.st_compile.proofs.refusing.first_unknown.Given as goal

abbrev pub invariant-loop-line : goal.invariant-loop-line
invariant-loop-line l = l.least ≡ least_of (unknown (scope_seen l.scope) (map line_of (take l.line-index l.lines)))
