use Rattle.std.proofs.Common.{◌≡◌, ◌+◌, ◌≤◌, vec_len}
use Rattle.std.specs.Prelude.{vec_capacity}
use Rattle.st_server.proofs.sockets.ended.Given as goal

abbrev pub invariant-loop-handle : goal.invariant-loop-handle
invariant-loop-handle g l =
    record {
      all : vec_len l.shares + vec_len l.handles ≡ vec_len l.fn.shares + vec_len l.fn.handles;
      room : vec_len l.fn.shares + vec_len l.fn.handles ≤ vec_capacity l.shares;
    }

abbrev pub decreases-loop-handle : goal.decreases-loop-handle
decreases-loop-handle g l = vec_len l.handles
