use Rattle.std.proofs.Common.{◌≡◌, take, true, All}
use Rattle.st_classes.specs.Classes.{class_count}
use Rattle.st_mailbox.specs.declared.messages.Message.{Message}
use Rattle.st_image.specs.PostRules.{message_fits}
use Rattle.st_image.proofs.fitting.messages.messages_fit.Given as goal

abbrev pub invariant-messages : goal.invariant-messages
invariant-messages l = All (λ (m : Message). message_fits l.names (class_count l.version) l.actors m ≡ true) (take l.place l.messages)
