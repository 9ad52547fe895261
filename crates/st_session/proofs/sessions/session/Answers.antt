use Rattle.std.proofs.Common.{◌≡◌, ◌^◌, ◌+◌, ◌<◌, ◌≤◌, ℕ, Option, Ok, arith, refl, subst, inl, ◌∙◌, length, IfNone}
use Rattle.std.specs.Io.KnownBytes.{IsAtEnd}
use Rattle.st_wire.specs.Streams.{input_view}
use Rattle.st_session.specs.Lines.{lines}
use Rattle.st_session.specs.Sessions.{Replies}
use Rattle.st_session.specs.Answering.{TakesTurn}
use Rattle.st_session.proofs.Counting.{one_then, flushed_then}
use Rattle.st_session.proofs.Stopping.{reached_start, reached_more, stopped, endless, at_end, done, ended, last_count, few_more, few_at_end, one_at_most}
use Rattle.st_session.proofs.sessions.session.Goals as goal

pub loop-reads-init : goal.loop-reads-init
loop-reads-init g c =
    let view = input_view g.I.Input.remaining g.I.Input.failures g.I.Input.reads in
    record {
      so_far = reached_start (Replies g.H.Handler.answers) c.args.handler.now (view c.args.input.now) (g.O.Output.contents c.args.output.now) c.new-unread.result c.new-unread.ensures;
      flushed = refl;
      unfailed = refl;
    }

pub overflow_add-lines : goal.overflow_add-lines
overflow_add-lines g c =
    let replies = Replies g.H.Handler.answers in
    let view = input_view g.I.Input.remaining g.I.Input.failures g.I.Input.reads in
    let r = c.loop-reads.invariant.so_far in
    let new = c.take_turn.new in
    let s = c.in-Ok-Some.ensures in
    let w = s.written r.left r.holds in
    let turn = subst (λ (o : Option ℕ). TakesTurn replies (view c.loop-reads.input).failures (view new.input).failures r.left w.0 c.loop-reads.handler w.1 new.handler new.unread (Ok o)) c.in-Ok-Some.field-0-is w.5 in
    let few = few_more replies c.args.handler.now (view c.args.input.now) (view c.loop-reads.input) (view new.input) _ _ _ c.loop-reads.handler new.handler c.loop-reads.unread new.unread c.loop-reads.lines c.in-Ok-Some.count c.loop-reads.reads r w.0 w.1 w.2 w.3 w.4 turn s.read.0 in
    let bound : c.loop-reads.reads < 2 ^ 32 = c.loop-reads-test.true in
    omega (arith, few, bound)

pub loop-reads-preserved : goal.loop-reads-preserved
loop-reads-preserved g c =
    let replies = Replies g.H.Handler.answers in
    let view = input_view g.I.Input.remaining g.I.Input.failures g.I.Input.reads in
    let r = c.loop-reads.invariant.so_far in
    let new = c.take_turn.new in
    let s = c.in-Ok-Some.ensures in
    let w = s.written r.left r.holds in
    let turn = subst (λ (o : Option ℕ). TakesTurn replies (view c.loop-reads.input).failures (view new.input).failures r.left w.0 c.loop-reads.handler w.1 new.handler new.unread (Ok o)) c.in-Ok-Some.field-0-is w.5 in
    record {
      so_far = reached_more replies c.args.handler.now (view c.args.input.now) (view c.loop-reads.input) (view new.input) _ _ _ c.loop-reads.handler new.handler c.loop-reads.unread new.unread c.loop-reads.lines c.in-Ok-Some.count c.loop-reads.reads r w.0 w.1 w.2 w.3 w.4 turn s.read.0;
      flushed = one_then c.loop-reads.reads _ _ _ c.loop-reads.invariant.flushed s.read.1;
      unfailed = s.failures ∙ c.loop-reads.invariant.unfailed;
    }

pub returns-in-Err-clause-session : goal.returns-in-Err-clause-session
returns-in-Err-clause-session g c =
    let replies = Replies g.H.Handler.answers in
    let view = input_view g.I.Input.remaining g.I.Input.failures g.I.Input.reads in
    let r = c.loop-reads.invariant.so_far in
    let new = c.take_turn.new in
    let s = c.in-Err.ensures in
    let w = s.written r.left r.holds in
    let f = s.flushes in
    let bound : c.loop-reads.reads < 2 ^ 32 = c.loop-reads-test.true in
    stopped replies c.args.handler.now (view c.args.input.now) (view c.loop-reads.input) (view new.input) _ _ _ c.loop-reads.handler new.handler c.loop-reads.unread new.unread c.loop-reads.lines c.loop-reads.reads f.0 r w.0 w.1 c.in-Err.refusal w.3 w.4 w.5 bound f.1 f.2

pub returns-in-Err-clause-flushes : goal.returns-in-Err-clause-flushes
returns-in-Err-clause-flushes g c =
    let bound : c.loop-reads.reads < 2 ^ 32 = c.loop-reads-test.true in
    flushed_then {T = Option ℕ} {U = ℕ} c.loop-reads.reads _ _ _ _ _ _ c.in-Err.refusal bound c.loop-reads.invariant.so_far.counted c.loop-reads.invariant.flushed c.in-Err.ensures.flushes

pub returns-clause-session : goal.returns-clause-session
returns-clause-session g c =
    let replies = Replies g.H.Handler.answers in
    let view = input_view g.I.Input.remaining g.I.Input.failures g.I.Input.reads in
    endless replies c.args.handler.now (view c.args.input.now) (view c.loop-reads.input) _ _ c.loop-reads.handler c.loop-reads.unread c.loop-reads.lines c.loop-reads.reads c.loop-reads.invariant.so_far (omega (arith, c.loop-reads-test.false, c.loop-reads.auto.reads-end))

pub overflow_add-result : goal.overflow_add-result
overflow_add-result g c =
    let replies = Replies g.H.Handler.answers in
    let view = input_view g.I.Input.remaining g.I.Input.failures g.I.Input.reads in
    let r = c.loop-reads.invariant.so_far in
    let new = c.take_turn.new in
    let s = c.in-Ok-None.ensures in
    let w = s.written r.left r.holds in
    let turn = subst (λ (o : Option ℕ). TakesTurn replies (view c.loop-reads.input).failures (view new.input).failures r.left w.0 c.loop-reads.handler w.1 new.handler new.unread (Ok o)) c.in-Ok-None.field-0-is w.5 in
    let at = subst (λ (o : Option ℕ). IfNone o (IsAtEnd (view new.input).remaining)) c.in-Ok-None.field-0-is s.end in
    let bound : c.loop-reads.reads < 2 ^ 32 = c.loop-reads-test.true in
    let here = at_end replies c.args.handler.now (view c.args.input.now) (view c.loop-reads.input) (view new.input) _ _ _ c.loop-reads.handler new.handler c.loop-reads.unread new.unread c.loop-reads.lines c.loop-reads.reads r w.0 w.1 w.3 w.4 turn bound s.read.0 at in
    let few = few_at_end replies c.args.handler.now (view c.args.input.now) (view new.input) _ _ new.handler new.unread c.loop-reads.lines here in
    let one : c.from.result ≤ 1 = omega (arith, c.from.ensures, one_at_most c.in-Ok.is_line) in
    omega (arith, few, one)

pub returns-in-Ok-clause-session : goal.returns-in-Ok-clause-session
returns-in-Ok-clause-session g c =
    let replies = Replies g.H.Handler.answers in
    let view = input_view g.I.Input.remaining g.I.Input.failures g.I.Input.reads in
    let r = c.loop-reads.invariant.so_far in
    let new = c.take_turn.new in
    let s = c.in-Ok-None.ensures in
    let w = s.written r.left r.holds in
    let turn = subst (λ (o : Option ℕ). TakesTurn replies (view c.loop-reads.input).failures (view new.input).failures r.left w.0 c.loop-reads.handler w.1 new.handler new.unread (Ok o)) c.in-Ok-None.field-0-is w.5 in
    let at = subst (λ (o : Option ℕ). IfNone o (IsAtEnd (view new.input).remaining)) c.in-Ok-None.field-0-is s.end in
    let bound : c.loop-reads.reads < 2 ^ 32 = c.loop-reads-test.true in
    let here = at_end replies c.args.handler.now (view c.args.input.now) (view c.loop-reads.input) (view new.input) _ _ _ c.loop-reads.handler new.handler c.loop-reads.unread new.unread c.loop-reads.lines c.loop-reads.reads r w.0 w.1 w.3 w.4 turn bound s.read.0 at in
    let last = c.in-Ok.ensures.written here.left here.holds here.whole in
    let count : c.from.result ≡ length (lines here.left) = c.from.ensures ∙ last_count replies here.left new.handler c.answer_last.new.handler last.0 c.in-Ok.is_line last.2 in
    done replies c.args.handler.now (view c.args.input.now) (view new.input) _ _ _ new.handler c.answer_last.new.handler new.unread c.loop-reads.lines c.from.result c.in-Ok.is_line here last.0 last.1 last.2 count

pub returns-in-Ok-clause-flushes : goal.returns-in-Ok-clause-flushes
returns-in-Ok-clause-flushes g c =
    let s = c.in-Ok-None.ensures in
    let n = c.loop-reads.reads in
    let bound : n < 2 ^ 32 = c.loop-reads-test.true in
    (n + 1, omega (arith, bound), one_then n _ _ _ c.loop-reads.invariant.so_far.counted s.read.0, inl (c.in-Ok.ensures.unflushed ∙ one_then n _ _ _ c.loop-reads.invariant.flushed s.read.1))

pub returns-in-Err-answer_last-clause-session : goal.returns-in-Err-answer_last-clause-session
returns-in-Err-answer_last-clause-session g c =
    let replies = Replies g.H.Handler.answers in
    let view = input_view g.I.Input.remaining g.I.Input.failures g.I.Input.reads in
    let r = c.loop-reads.invariant.so_far in
    let new = c.take_turn.new in
    let s = c.in-Ok-None.ensures in
    let w = s.written r.left r.holds in
    let turn = subst (λ (o : Option ℕ). TakesTurn replies (view c.loop-reads.input).failures (view new.input).failures r.left w.0 c.loop-reads.handler w.1 new.handler new.unread (Ok o)) c.in-Ok-None.field-0-is w.5 in
    let at = subst (λ (o : Option ℕ). IfNone o (IsAtEnd (view new.input).remaining)) c.in-Ok-None.field-0-is s.end in
    let bound : c.loop-reads.reads < 2 ^ 32 = c.loop-reads-test.true in
    let here = at_end replies c.args.handler.now (view c.args.input.now) (view c.loop-reads.input) (view new.input) _ _ _ c.loop-reads.handler new.handler c.loop-reads.unread new.unread c.loop-reads.lines c.loop-reads.reads r w.0 w.1 w.3 w.4 turn bound s.read.0 at in
    let last = c.in-Err-answer_last.ensures.written here.left here.holds here.whole in
    ended replies c.args.handler.now (view c.args.input.now) (view new.input) _ _ _ new.handler c.answer_last.new.handler new.unread c.loop-reads.lines c.in-Err-answer_last.refusal here last.0 last.1 last.2

pub returns-in-Err-answer_last-clause-flushes : goal.returns-in-Err-answer_last-clause-flushes
returns-in-Err-answer_last-clause-flushes g c =
    let s = c.in-Ok-None.ensures in
    let n = c.loop-reads.reads in
    let bound : n < 2 ^ 32 = c.loop-reads-test.true in
    (n + 1, omega (arith, bound), one_then n _ _ _ c.loop-reads.invariant.so_far.counted s.read.0, inl (c.in-Err-answer_last.ensures.unflushed ∙ one_then n _ _ _ c.loop-reads.invariant.flushed s.read.1))
