use Rattle.st_bitset.proofs.OneWord.{lowest_of}
use Rattle.st_bitset.proofs.word.lowest.Goals as goal

pub returns : goal.returns
returns c = lowest_of c.args.word c.requires c.ranges.word.fits
