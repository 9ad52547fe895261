use Rattle.std.proofs.Common.{◌≡◌, take}
use Rattle.st_image.proofs.actor.copying.copied.Given as goal

abbrev pub invariant-messages : goal.invariant-messages
invariant-messages g l = l.messages.items ≡ take l.place (g.M.Mailbox.shown l.mailbox).items
