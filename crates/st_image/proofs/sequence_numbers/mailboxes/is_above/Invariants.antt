use Rattle.std.proofs.Common.{take}
use Rattle.std.specs.Prelude.{All}
use Rattle.st_image.specs.SenderNumbers.{IsBelow}
use Rattle.st_image.proofs.sequence_numbers.mailboxes.is_above.Given as goal

abbrev pub invariant-messages : goal.invariant-messages
invariant-messages l = All (IsBelow l.later) (take l.place l.earlier)
