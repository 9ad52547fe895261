use Rattle.st_disk.proofs.LoadedAnew.{found_anew, loaded_anew}
use Rattle.st_disk.proofs.image_files.found_in.Goals as goal

pub returns-clause-anew : goal.returns-clause-anew
returns-clause-anew g c = rw c.found_as.ensures (found_anew _ (loaded_anew _ _ c.load-loaded.result c.load-loaded.ensures))
