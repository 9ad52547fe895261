use Rattle.std.proofs.Common.{◌≡◌, take}
use Rattle.std.specs.List.{flat_map}
use Rattle.st_compile.proofs.names.joined_pattern.Given as goal

abbrev pub invariant-loop-parameter : goal.invariant-loop-parameter
invariant-loop-parameter l = l.text.items ≡ flat_map (λ p. p.keyword.text) (take l.parameter-index l.parameters)
