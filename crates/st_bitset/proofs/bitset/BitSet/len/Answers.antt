use Rattle.std.proofs.Common.{arith, ap, sym, ◌∙◌, ◌≡◌, length, List, Bool}
use Rattle.st_bitset.proofs.Lists.{length-flags}
use Rattle.st_bitset.proofs.bitset.BitSet.len.Goals as goal

pub returns-clause-value : goal.returns-clause-value
returns-clause-value c = sym (length-flags c.self.inside.len c.self.inside.low.items) ∙ ap (λ (fs : List Bool). length fs) c.self.view_is

pub returns-clause-few : goal.returns-clause-few
returns-clause-few c =
    let e : c.self.inside.len ≡ length c.args.self.now = sym (length-flags c.self.inside.len c.self.inside.low.items) ∙ ap (λ (fs : List Bool). length fs) c.self.view_is in
    omega (arith, e, c.self.invariant.few)
