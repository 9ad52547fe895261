use Rattle.st_session.proofs.Parts.{cuts_at_newlines}
use Rattle.st_session.proofs.lines.cutting.Goals as goal

pub returns : goal.returns
returns c = cuts_at_newlines
