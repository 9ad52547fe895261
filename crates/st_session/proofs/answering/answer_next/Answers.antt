use Rattle.st_session.proofs.Stepping.{next_answered}
use Rattle.st_session.proofs.answering.answer_next.Goals as goal

pub returns-clause-written : goal.returns-clause-written
returns-clause-written g c p h =
    let s = c.serve.ensures.written in
    (s.0, s.1, next_answered g.H.Handler.answers p c.take-cut.result c.take-cut.new.self c.args.handler.now s.0 c.serve.new.handler c.serve.result (c.take-cut.ensures.takes p h) s.2)
