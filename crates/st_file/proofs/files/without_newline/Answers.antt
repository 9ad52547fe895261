use Rattle.st_file.proofs.Written.{before_newline, no_newline}
use Rattle.st_file.proofs.files.without_newline.Goals as goal

pub returns-then-last-eq10 : goal.returns-then-last-eq10
returns-then-last-eq10 c = before_newline c.args.text.now c.in-Some.front.now c.in-Some.last.now c.in-Some.ensures.cases.0 c.if-last-eq10.true

pub returns-else-last-eq10 : goal.returns-else-last-eq10
returns-else-last-eq10 c = no_newline c.args.text.now c.in-Some.front.now c.in-Some.last.now c.in-Some.ensures.cases.0 c.if-last-eq10.false
