use Rattle.std.proofs.Common.{ap, sym, ◌∙◌, List, Bool, ℕ}
use Rattle.st_bitset.specs.BitSet.{is_raised}
use Rattle.st_bitset.specs.Words.{bit_of}
use Rattle.st_bitset.proofs.Lists.{raised_is}
use Rattle.st_bitset.proofs.bitset.BitSet.get.Goals as goal

pub returns : goal.returns
returns c =
    c.read.ensures
    ∙ (ap (λ (ws : List ℕ). bit_of ws c.args.at) c.deref.ensures.value
    ∙ (sym (raised_is c.self.inside.len c.self.inside.low.items c.self.invariant.past c.args.at)
    ∙ ap (λ (fs : List Bool). is_raised fs c.args.at) c.self.view_is))
