use Rattle.std.proofs.Common.{◌≡◌}
use Rattle.st_wire.specs.Streams.{input_view, so_many_more}
use Rattle.st_session.specs.Sessions.{Replies}
use Rattle.st_session.proofs.Stopping.{Reached}
use Rattle.st_session.proofs.sessions.session.Given as goal

abbrev pub invariant-loop-reads : goal.invariant-loop-reads
invariant-loop-reads g l =
    let view = input_view g.I.Input.remaining g.I.Input.failures g.I.Input.reads in
    let contents = g.O.Output.contents in
    record {
      so_far : Reached (Replies g.H.Handler.answers) l.initial.handler (view l.initial.input) (view l.input) (contents l.initial.output) (contents l.output) l.handler l.unread l.lines l.reads;
      flushed : g.O.Output.flushes l.output ≡ so_many_more l.reads (g.O.Output.flushes l.initial.output);
      unfailed : g.O.Output.failures l.output ≡ g.O.Output.failures l.initial.output;
    }
