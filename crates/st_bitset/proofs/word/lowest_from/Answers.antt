use Rattle.std.proofs.Common.{arith, refl}
use Rattle.std.proofs.lemmas.Nat.{and_le_l}
use Rattle.st_bitset.proofs.OneWord.{lowest_kept, none_kept}
use Rattle.st_bitset.proofs.word.lowest_from.Goals as goal

pub returns-then-rest-eq0-clause-none : goal.returns-then-rest-eq0-clause-none
returns-then-rest-eq0-clause-none c = none_kept c.args.word c.args.place _ c.requires refl c.if-rest-eq0.true

pub returns-else-rest-eq0-clause-some : goal.returns-else-rest-eq0-clause-some
returns-else-rest-eq0-clause-some c = lowest_kept c.args.word c.args.place _ c.requires refl (omega (arith, c.if-rest-eq0.false)) (omega (arith, and_le_l, c.ranges.word.fits))
