use Rattle.st_image.specs.SenderNumbers.{IsAbove}
use Rattle.st_image.proofs.SenderNumbers.{Before}
use Rattle.st_image.proofs.sequence_numbers.mailboxes.are_rising.Given as goal

abbrev pub invariant-messages : goal.invariant-messages
invariant-messages l = Before IsAbove l.messages l.place
