use Rattle.std.proofs.Common.{◌≡◌, ◌⊎◌, true, take}
use Rattle.st_image.specs.SenderNumbers.{AreSeen, IsIn, has}
use Rattle.st_image.proofs.sequence_numbers.seen.SeenNumbers.add_all.Given as goal

abbrev pub invariant-messages : goal.invariant-messages
invariant-messages l = AreSeen l.self (λ s n. (has l.fn.self s n ≡ true) ⊎ IsIn (take l.place l.messages) s n)
