use Rattle.std.proofs.Common.{◌≡◌, ◌+◌, drop}
use Rattle.st_log.specs.Lines.{whole_len_from}
use Rattle.st_log.proofs.lines.whole_len.Given as goal

abbrev pub invariant-loop-byte : goal.invariant-loop-byte
invariant-loop-byte l = record {
  counted : l.end + whole_len_from l.line (drop l.byte-index l.bytes) ≡ whole_len_from 0 l.bytes;
  within : l.end + l.line ≡ l.byte-index;
}
