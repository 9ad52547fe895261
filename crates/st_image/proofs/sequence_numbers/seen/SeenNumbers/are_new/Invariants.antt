use Rattle.std.proofs.Common.{◌≡◌, false, take}
use Rattle.std.specs.Prelude.{All}
use Rattle.st_mailbox.specs.declared.messages.Message.{Message}
use Rattle.st_image.specs.SenderNumbers.{has}
use Rattle.st_image.proofs.sequence_numbers.seen.SeenNumbers.are_new.Given as goal

abbrev pub invariant-messages : goal.invariant-messages
invariant-messages l = All (λ (m : Message). has l.self m.sender m.seq ≡ false) (take l.place l.messages)
