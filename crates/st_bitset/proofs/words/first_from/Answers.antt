use Rattle.std.proofs.Common.{arith}
use Rattle.st_bitset.proofs.Levels.{few_below_one, first_below, none_below}
use Rattle.st_bitset.proofs.words.first_from.Goals as goal

pub returns-in_default-first_in_mid-clause-none : goal.returns-in_default-first_in_mid-clause-none
returns-in_default-first_in_mid-clause-none c = none_below c.args.mid.now c.args.low.now c.args.from c.requires.above_low c.in_default.ensures.none c.in_default-first_in_mid.ensures.none

pub first_of_word-requires-clause-fits : goal.first_of_word-requires-clause-fits
first_of_word-requires-clause-fits c =
    omega (arith, few_below_one c.args.top.now c.args.mid.now c.requires.above_mid c.requires.one c.in-Some-first_in_mid.place c.in-Some-first_in_mid.ensures.some.raised)

pub returns-clause-some : goal.returns-clause-some
returns-clause-some c = first_below c.args.mid.now c.args.low.now c.args.from c.in-Some-first_in_mid.place c.first_of_word.result c.requires.above_low c.in_default.ensures.none c.in-Some-first_in_mid.ensures.some c.first_of_word.ensures
