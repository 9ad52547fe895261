use Rattle.std.proofs.Common.{◌≡◌, vec_len}
use Rattle.st_server.proofs.sockets.new_workers.Given as goal

abbrev pub invariant-loop : goal.invariant-loop
invariant-loop l = vec_len l.workers ≡ l.counter
