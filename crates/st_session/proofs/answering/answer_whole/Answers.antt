use Rattle.std.proofs.Common.{◌++◌, ◌∙◌, [], Bool, Ok, subst, arith, ap, refl}
use Rattle.std.proofs.KnownBytes.{Appends-nil, Appends-trans}
use Rattle.st_session.specs.Sessions.{Replies}
use Rattle.st_session.specs.Answering.{AnswersNext}
use Rattle.st_session.proofs.Going.{answered_start, answered_line, ends_first, ends_then}
use Rattle.st_session.proofs.answering.answer_whole.Goals as goal

pub lines-init : goal.lines-init
lines-init g c = record {
  going = λ p h. ([], p, Appends-nil _, answered_start (Replies g.H.Handler.answers) p c.args.handler.now, h);
  few = omega (arith, c.len-most.ensures);
  unfailed = refl;
  unflushed = refl;
}

pub lines-preserved : goal.lines-preserved
lines-preserved g c =
    let replies = Replies g.H.Handler.answers in
    let next = c.answer_next.new in
    let was = c.in-Ok-true.ensures in
    record {
      going = λ p h.
          let so_far = c.lines.invariant.going p h in
          let step = was.written so_far.1 so_far.4 in
          let took = subst (λ (b : Bool). AnswersNext replies so_far.1 c.lines.handler step.0 next.handler next.unread (Ok b)) c.in-Ok-true.field-0-test step.2 in
          (so_far.0 ++ step.0, took.1, Appends-trans _ _ _ _ _ so_far.2 step.1, answered_line replies p so_far.1 took.0 took.1 c.args.handler.now c.lines.handler next.handler so_far.0 step.0 c.lines.count so_far.3 took.2 took.3, took.4);
      few = let less = was.shorter (ap Ok c.in-Ok-true.field-0-test) in omega (arith, less, c.lines.invariant.few);
      unfailed = was.failures ∙ c.lines.invariant.unfailed;
      unflushed = was.unflushed ∙ c.lines.invariant.unflushed;
    }

pub returns-in-Err-clause-written : goal.returns-in-Err-clause-written
returns-in-Err-clause-written g c p h =
    let replies = Replies g.H.Handler.answers in
    let next = c.answer_next.new in
    let so_far = c.lines.invariant.going p h in
    let last = c.in-Err.ensures.written so_far.1 so_far.4 in
    let ended = ends_first replies so_far.1 c.lines.handler next.handler last.0 c.in-Err.refusal last.2 in
    (so_far.0 ++ last.0, Appends-trans _ _ _ _ _ so_far.2 last.1, ends_then replies p so_far.1 c.args.handler.now c.lines.handler next.handler so_far.0 last.0 c.lines.count c.in-Err.refusal so_far.3 ended)
