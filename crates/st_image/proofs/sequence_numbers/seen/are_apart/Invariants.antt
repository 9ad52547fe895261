use Rattle.std.proofs.Common.{take}
use Rattle.st_image.specs.SenderNumbers.{AreSeen, IsApart, IsSent}
use Rattle.st_image.proofs.SenderNumbers.{Before}
use Rattle.st_image.proofs.sequence_numbers.seen.are_apart.Given as goal

abbrev pub invariant-actors : goal.invariant-actors
invariant-actors l = Before IsApart l.actors l.place × AreSeen l.seen (IsSent (take l.place l.actors))
