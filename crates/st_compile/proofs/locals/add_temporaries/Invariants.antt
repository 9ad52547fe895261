use Rattle.std.proofs.Common.{◌≡◌, ◌++◌, take}
use Rattle.st_compile.specs.Scopes.{named}
use Rattle.st_compile.proofs.locals.add_temporaries.Given as goal

abbrev pub invariant-loop-name : goal.invariant-loop-name
invariant-loop-name l = named l.names.items ≡ named l.fn.names.items ++ take l.name-index l.name-items
