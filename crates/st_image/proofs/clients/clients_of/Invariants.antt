use Rattle.std.proofs.Common.{◌≡◌, take}
use Rattle.st_image.specs.Clients.{clients_from}
use Rattle.st_image.proofs.clients.clients_of.Given as goal

abbrev pub invariant-loop-client : goal.invariant-loop-client
invariant-loop-client l = l.clients.items ≡ clients_from 0 (take l.client l.numbers)
