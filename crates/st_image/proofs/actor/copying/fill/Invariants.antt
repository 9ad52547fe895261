use Rattle.std.proofs.Common.{◌≡◌, take}
use Rattle.st_image.proofs.Filling.{holding}
use Rattle.st_image.proofs.actor.copying.fill.Given as goal

abbrev pub invariant-messages : goal.invariant-messages
invariant-messages g l = g.M.Mailbox.shown l.mailbox ≡ holding (g.M.Mailbox.shown l.fn.mailbox) (take l.place l.messages)
