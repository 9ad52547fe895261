use Rattle.st_compile.specs.DraftViews.{sent_arguments, sent_text}
use Rattle.st_compile.proofs.Arities.{number_few, selector_of_number}
use Rattle.st_compile.proofs.words.Word.instruction.Goals as goal

pub number-requires : goal.number-requires
number-requires c = selector_of_number (sent_text c.in-Message.sent) (sent_arguments c.in-Message.sent) (rw c.in-Message.is at c.requires.fits)

pub arguments-requires : goal.arguments-requires
arguments-requires c = number_few (sent_text c.in-Message.sent) (sent_arguments c.in-Message.sent) (rw c.in-Message.is at c.requires.fits)

pub number-requires-in-SuperMessage : goal.number-requires-in-SuperMessage
number-requires-in-SuperMessage c = selector_of_number (sent_text c.in-SuperMessage.sent) (sent_arguments c.in-SuperMessage.sent) (rw c.in-SuperMessage.is at c.requires.fits)

pub arguments-requires-in-SuperMessage : goal.arguments-requires-in-SuperMessage
arguments-requires-in-SuperMessage c = number_few (sent_text c.in-SuperMessage.sent) (sent_arguments c.in-SuperMessage.sent) (rw c.in-SuperMessage.is at c.requires.fits)
