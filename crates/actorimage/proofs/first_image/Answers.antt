use Rattle.actorimage.proofs.BegunAnew.{begins_anew}
use Rattle.actorimage.proofs.first_image.Goals as goal

pub returns : goal.returns
returns c = begins_anew c.load_file-found.result c.begin_with.result c.load_file-found.ensures c.begin_with.ensures
