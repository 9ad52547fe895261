use Rattle.std.proofs.Common.{◌≡◌, ◌++◌, map, take}
use Rattle.st_compile.specs.Scopes.{named}
use Rattle.st_compile.proofs.locals.add_arguments.Given as goal

abbrev pub invariant-loop-parameter : goal.invariant-loop-parameter
invariant-loop-parameter l = named l.names.items ≡ named l.fn.names.items ++ map (λ p. p.argument) (take l.parameter-index l.parameter-items)
