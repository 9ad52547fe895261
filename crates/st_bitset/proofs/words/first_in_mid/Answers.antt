use Rattle.st_bitset.proofs.Levels.{first_below, none_below}
use Rattle.st_bitset.proofs.words.first_in_mid.Goals as goal

pub returns-in_default-first_in_top-clause-none : goal.returns-in_default-first_in_top-clause-none
returns-in_default-first_in_top-clause-none c = none_below c.args.top.now c.args.mid.now c.args.from c.requires.above c.in_default.ensures.none c.in_default-first_in_top.ensures.none

pub returns-clause-some : goal.returns-clause-some
returns-clause-some c = first_below c.args.top.now c.args.mid.now c.args.from c.in-Some-first_in_top.place c.first_of_word.result c.requires.above c.in_default.ensures.none c.in-Some-first_in_top.ensures.some c.first_of_word.ensures
