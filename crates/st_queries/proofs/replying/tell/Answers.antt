use Rattle.st_queries.specs.Answers.{told_of}
use Rattle.st_queries.proofs.replying.tell.Goals as goal

pub returns : goal.returns
returns c = (c.answer-answered.ensures.0, c.reply_of.ensures (told_of c.args.snapshot.now c.args.host c.answer-answered.ensures.0 c.args.query.now) c.answer-answered.ensures.1)
