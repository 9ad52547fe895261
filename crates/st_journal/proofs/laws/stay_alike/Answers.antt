use Rattle.st_journal.proofs.StayingAlike as staying
use Rattle.st_journal.proofs.laws.stay_alike.Goals as goal

pub returns-clause-alike : goal.returns-clause-alike
returns-clause-alike c = staying.stay_alike

pub returns-clause-few : goal.returns-clause-few
returns-clause-few c = staying.worlds_begin_few
