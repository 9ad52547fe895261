use Rattle.std.proofs.Common.{arith, ◌<◌, ◌∙◌, ap, Bool, List}
use Rattle.std.proofs.Math.ListN.{set}
use Rattle.st_bitset.proofs.Kept.{levels_written, within}
use Rattle.st_bitset.proofs.Lists.{flags_written}
use Rattle.st_bitset.proofs.bitset.BitSet.set.Goals as goal

pub write_in-low_any-requires : goal.write_in-low_any-requires
write_in-low_any-requires c = omega (arith, within c.self.inside.len c.self.inside.low.items c.args.self.now c.args.at c.self.view_is c.requires, c.self.invariant.low_room)

pub write_in-mid_any-requires : goal.write_in-mid_any-requires
write_in-mid_any-requires c = omega (arith, within c.self.inside.len c.self.inside.low.items c.args.self.now c.args.at c.self.view_is c.requires, c.self.invariant.mid_room)

pub write-requires : goal.write-requires
write-requires c = omega (arith, within c.self.inside.len c.self.inside.low.items c.args.self.now c.args.at c.self.view_is c.requires, c.self.invariant.few, c.self.invariant.one)

pub invariant_of-self : goal.invariant_of-self
invariant_of-self c =
    let inside : c.args.at < c.self.inside.len = within c.self.inside.len c.self.inside.low.items c.args.self.now c.args.at c.self.view_is c.requires in
    levels_written c.self.inside.len c.self.inside.low.items c.self.inside.mid.items c.self.inside.top c.write_in-low_any.new.words.items c.write_in-mid_any.new.words.items c.write.new.words c.args.at c.args.raised c.write_in-low_any.result c.write_in-mid_any.result c.self.invariant inside c.write_in-low_any.ensures.written c.write_in-low_any.ensures.any c.write_in-mid_any.ensures.written c.write_in-mid_any.ensures.any c.write.ensures.written

pub returns : goal.returns
returns c =
    let inside : c.args.at < c.self.inside.len = within c.self.inside.len c.self.inside.low.items c.args.self.now c.args.at c.self.view_is c.requires in
    flags_written c.self.inside.len c.self.inside.low.items c.write_in-low_any.new.words.items c.args.at c.args.raised inside c.write_in-low_any.ensures.written
    ∙ ap (λ (fs : List Bool). set fs c.args.at c.args.raised) c.self.view_is
