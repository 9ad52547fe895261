use Rattle.std.proofs.Common.{◌≡◌, take}
use Rattle.st_image.proofs.base.logged.Given as goal

abbrev pub invariant-clients : goal.invariant-clients
invariant-clients l = l.log.items ≡ take l.place l.fn.clients
