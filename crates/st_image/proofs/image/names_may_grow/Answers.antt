use Rattle.st_image.proofs.GrowingNames.{replay_more}
use Rattle.st_image.proofs.image.names_may_grow.Goals as goal

pub returns : goal.returns
returns c = λ names more capacity base w h k all e. replay_more (record { names = names; capacity = capacity }) more base w h k all e
