use Rattle.st_session.proofs.Stepping.{last_answered}
use Rattle.st_session.proofs.answering.answer_last.Goals as goal

pub returns-clause-written : goal.returns-clause-written
returns-clause-written g c p h o =
    let s = c.serve.ensures.written in
    (s.0, s.1, last_answered g.H.Handler.answers p c.take_last-cut.result c.args.handler.now s.0 c.serve.new.handler c.serve.result (c.take_last-cut.ensures p h o) s.2)
