use Rattle.st_image.proofs.CountingOnce.{counts_on_its_body}
use Rattle.st_image.proofs.image.one_claim_counts.Goals as goal

pub returns : goal.returns
returns c = counts_on_its_body
