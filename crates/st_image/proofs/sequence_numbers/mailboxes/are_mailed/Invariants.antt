use Rattle.std.proofs.Common.{take}
use Rattle.std.specs.Prelude.{All}
use Rattle.st_image.specs.SenderNumbers.{IsMailed}
use Rattle.st_image.proofs.sequence_numbers.mailboxes.are_mailed.Given as goal

abbrev pub invariant-actors : goal.invariant-actors
invariant-actors l = All (IsMailed l.lasts l.actors) (take l.place l.actors)
