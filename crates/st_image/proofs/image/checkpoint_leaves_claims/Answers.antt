use Rattle.st_image.proofs.Checkpointing.{leaves_claims}
use Rattle.st_image.proofs.image.checkpoint_leaves_claims.Goals as goal

pub returns : goal.returns
returns c = leaves_claims
