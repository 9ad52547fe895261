use Rattle.std.proofs.Common.{take}
use Rattle.std.specs.Prelude.{All}
use Rattle.st_image.specs.SenderNumbers.{IsNumbered}
use Rattle.st_image.proofs.sequence_numbers.mailboxes.are_numbered.Given as goal

abbrev pub invariant-messages : goal.invariant-messages
invariant-messages l = All (IsNumbered l.lasts l.actors) (take l.place l.messages)
