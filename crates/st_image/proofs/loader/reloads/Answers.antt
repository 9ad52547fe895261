use Rattle.st_image.proofs.Reloading.{tables_reload}
use Rattle.st_image.proofs.loader.reloads.Goals as goal

pub returns : goal.returns
returns c = tables_reload
