use Rattle.st_wire.proofs.KeyOrder.{keys_in_order}
use Rattle.st_wire.proofs.replies.key_order.Goals as goal

pub returns : goal.returns
returns c = keys_in_order
