use Rattle.std.proofs.Common.{◌≡◌, ◌+◌, ◌≤◌, ℕ, List, length}
use Rattle.std.specs.Io.KnownBytes.{Appends}
use Rattle.st_session.specs.Sessions.{Replies}
use Rattle.st_session.specs.Cuts.{Holds}
use Rattle.st_session.specs.Answering.{Answered}
use Rattle.st_session.proofs.answering.answer_whole.Given as goal

-- the lines so far are answered
abbrev pub invariant-lines : goal.invariant-lines
invariant-lines g l = record {
  going : (pending : List ℕ) → Holds pending l.initial.unread
      → (part : List ℕ) × (left : List ℕ) × Appends (g.O.Output.contents l.initial.output) (g.O.Output.contents l.output) part
      × Answered (Replies g.H.Handler.answers) pending l.initial.handler part l.handler left l.count
      × Holds left l.unread;
  few : l.count + length l.unread.bytes.items ≤ l.most;
  unfailed : g.O.Output.failures l.output ≡ g.O.Output.failures l.initial.output;
  unflushed : g.O.Output.flushes l.output ≡ g.O.Output.flushes l.initial.output;
}

abbrev pub decreases-lines : goal.decreases-lines
decreases-lines g l = length l.unread.bytes.items
