use Rattle.st_script.proofs.Taken.{runs_say_what_they_took}
use Rattle.st_script.proofs.laws.totals.Goals as goal

pub returns : goal.returns
returns c = runs_say_what_they_took
