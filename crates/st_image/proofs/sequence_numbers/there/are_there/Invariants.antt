use Rattle.std.proofs.Common.{take, All}
use Rattle.st_mailbox.specs.declared.messages.Message.{Message}
use Rattle.st_image.specs.SenderNumbers.{IsSenderAmong}
use Rattle.st_image.proofs.sequence_numbers.there.are_there.Given as goal

abbrev pub invariant-messages : goal.invariant-messages
invariant-messages l = All (λ (m : Message). IsSenderAmong l.actors m.sender) (take l.place l.messages)
