use Rattle.std.proofs.Common.{length, take, All}
use Rattle.st_image.specs.SenderNumbers.{HasSenders}
use Rattle.st_image.proofs.sequence_numbers.there.senders_are_there.Given as goal

abbrev pub invariant-actors : goal.invariant-actors
invariant-actors l = All (HasSenders (length l.actors)) (take l.place l.actors)
