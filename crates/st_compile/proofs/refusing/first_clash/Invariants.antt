use Rattle.std.proofs.Common.{◌≡◌, take}
use Rattle.st_compile.specs.CompileRules.{least_of, clashing}
use Rattle.st_compile.specs.Scopes.{named, scope_seen}
use Rattle.st_compile.proofs.refusing.first_clash.Given as goal

abbrev pub invariant-loop-name : goal.invariant-loop-name
invariant-loop-name l = l.least ≡ least_of (clashing (scope_seen l.scope).slots (named (take l.name-index l.name-items)))
