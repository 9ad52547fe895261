use Rattle.std.proofs.Common.{◌≡◌, ◌-◌, ◌≤◌, false, length, drop}
use Rattle.st_reader.specs.Lexer.{keywords_length}
use Rattle.st_reader.proofs.Keywords.{longer}
use Rattle.st_reader.proofs.tokens.keywords_length.Given as goal

abbrev pub invariant-loop-length : goal.invariant-loop-length
invariant-loop-length l = record {
  same : keywords_length false l.text ≡ longer l.length (keywords_length false (drop l.length l.text));
  within : l.length ≤ length l.text;
}

abbrev pub decreases-loop-length : goal.decreases-loop-length
decreases-loop-length l = length l.text - l.length
