use Rattle.st_file.proofs.LoadedAgain.{documents_load, files_load, texts_load}
use Rattle.st_file.proofs.laws.saved_loads.Goals as goal

pub returns-clause-documents : goal.returns-clause-documents
returns-clause-documents c = documents_load c.describes_one.ensures.one c.describes_one.ensures.none

pub returns-clause-texts : goal.returns-clause-texts
returns-clause-texts c = texts_load c.describes_one.ensures.one c.describes_one.ensures.none

pub returns-clause-files : goal.returns-clause-files
returns-clause-files c = files_load c.describes_one.ensures.one c.describes_one.ensures.none
