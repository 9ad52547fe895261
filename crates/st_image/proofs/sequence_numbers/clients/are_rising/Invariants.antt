use Rattle.st_image.proofs.NumberedClients.{RiseTo}
use Rattle.st_image.proofs.sequence_numbers.clients.are_rising.Given as goal

abbrev pub invariant-clients : goal.invariant-clients
invariant-clients l = RiseTo l.clients l.place l.least
