use Rattle.st_session.proofs.Stepping.{bad_line}
use Rattle.st_session.proofs.handlers.reply_to.Goals as goal

pub returns-in-Err : goal.returns-in-Err
returns-in-Err g c = bad_line g.H.Handler.answers c.args.handler.now c.args.line.now c.in-Err.refusal c.in-Err.ensures
