use Rattle.st_image.proofs.SenderNumbers.{seen_more}
use Rattle.st_image.proofs.sequence_numbers.seen.SeenNumbers.add_all.Goals as goal

pub messages-preserved : goal.messages-preserved
messages-preserved c = seen_more c.args.self.now c.messages.self c.add.new.self c.args.messages.now c.messages.place c.index-messages-place.result c.messages-test.true c.index-messages-place.is c.messages.invariant c.in_ok-add.ensures
