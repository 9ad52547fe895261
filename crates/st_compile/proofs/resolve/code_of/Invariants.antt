use Rattle.std.proofs.Common.{◌≡◌, ◌≤◌, length, map, take, Some}
use Rattle.st_compile.specs.DraftViews.{line_of}
use Rattle.st_compile.specs.Scopes.{scope_seen}
use Rattle.st_compile.specs.NeededNames.{interned_all}
use Rattle.st_compile.specs.NameResolution.{instructions_of}
use Rattle.st_compile.proofs.Mapped.{texts}
use Rattle.st_compile.proofs.resolve.code_of.Given as goal

abbrev pub invariant-loop-line : goal.invariant-loop-line
invariant-loop-line l = record {
  code : instructions_of l.names (scope_seen l.scope) (map line_of (take l.line-index l.lines)) ≡ Some l.code.items;
  names : l.names ≡ interned_all l.fn.names (texts line_of (take l.line-index l.lines));
  few : length l.names ≤ 8192;
}
