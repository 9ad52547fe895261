use Rattle.std.proofs.Common.{◌≡◌, ◌+◌, ◌++◌, ◌≤◌, List, length, map, drop}
use Rattle.std.specs.Prelude.{option_map}
use Rattle.st_reader.specs.Tokens.{Token, IsCutBefore}
use Rattle.st_reader.specs.Lexer.{tokens, tokens_behind}
use Rattle.st_reader.specs.Lexemes.{token_of, tokens_of}
use Rattle.st_reader.proofs.tokens.cut.Given as goal

abbrev pub invariant-loop-rest : goal.invariant-loop-rest
invariant-loop-rest l = record {
  same : tokens l.fn.source ≡ option_map (λ (ts : List Token). map (token_of l.fn.source) l.lexemes.items ++ ts) (tokens_behind 0 l.start l.rest);
  before : IsCutBefore l.fn.source (tokens_of l.fn.source l.lexemes.items) l.rest;
  rest : l.rest ≡ drop l.start l.fn.source;
  within : l.start + length l.rest ≡ length l.fn.source;
  short : length l.fn.source ≤ 4096;
}

abbrev pub decreases-loop-rest : goal.decreases-loop-rest
decreases-loop-rest l = length l.rest
