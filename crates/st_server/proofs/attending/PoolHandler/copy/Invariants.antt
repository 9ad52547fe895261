use Rattle.std.proofs.Common.{◌≡◌}
use Rattle.st_server.proofs.attending.PoolHandler.copy.Given as goal

abbrev pub invariant-loop : goal.invariant-loop
invariant-loop g l = l.self ≡ l.fn.self
