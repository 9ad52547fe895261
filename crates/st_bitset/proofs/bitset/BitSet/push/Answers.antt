use Rattle.std.proofs.Common.{Result, Ok, Err, OnErr, arith, ◌≡◌, ◌<◌, ◌++◌, [], ◌∷◌, ◌∙◌, ap, length, Bool, false, List}
use Rattle.st_bitset.specs.Words.{AreLevels, bit_of}
use Rattle.st_bitset.proofs.Kept.{low_grown, mid_grown, one_more}
use Rattle.st_bitset.proofs.Lists.{flags_more, length-flags, same_bit, same_flags}
use Rattle.st_bitset.proofs.bitset.BitSet.push.Goals as goal

on_err : {T E : Type 0} (r : Result T E) (P : Type 0) → P → OnErr r P
on_err (Ok x) P h = tt
on_err (Err e) P h = h

pub invariant_of-self : goal.invariant_of-self
invariant_of-self c = low_grown c.self.inside.len c.self.inside.low.items c.self.inside.mid.items c.self.inside.top c.make_room.new.words.items c.self.invariant c.make_room.ensures.same c.make_room.ensures.grows

pub invariant_of-self-in_err-make_room-2 : goal.invariant_of-self-in_err-make_room-2
invariant_of-self-in_err-make_room-2 c =
    let low_room : AreLevels c.self.inside.len c.make_room.new.words.items c.self.inside.mid.items c.self.inside.top = low_grown c.self.inside.len c.self.inside.low.items c.self.inside.mid.items c.self.inside.top c.make_room.new.words.items c.self.invariant c.make_room.ensures.same c.make_room.ensures.grows in
    mid_grown c.self.inside.len c.make_room.new.words.items c.self.inside.mid.items c.self.inside.top c.make_room-2.new.words.items low_room c.make_room-2.ensures.same c.make_room-2.ensures.grows

pub invariant_of-self-2 : goal.invariant_of-self-2
invariant_of-self-2 c =
    let low_room : AreLevels c.self.inside.len c.make_room.new.words.items c.self.inside.mid.items c.self.inside.top = low_grown c.self.inside.len c.self.inside.low.items c.self.inside.mid.items c.self.inside.top c.make_room.new.words.items c.self.invariant c.make_room.ensures.same c.make_room.ensures.grows in
    let room : AreLevels c.self.inside.len c.make_room.new.words.items c.make_room-2.new.words.items c.self.inside.top = mid_grown c.self.inside.len c.make_room.new.words.items c.self.inside.mid.items c.self.inside.top c.make_room-2.new.words.items low_room c.make_room-2.ensures.same c.make_room-2.ensures.grows in
    let few : c.self.inside.len < 65536 = omega (arith, length-flags c.self.inside.len c.self.inside.low.items, ap (λ (fs : List Bool). length fs) c.self.view_is, c.requires) in
    one_more c.self.inside.len c.make_room.new.words.items c.make_room-2.new.words.items c.self.inside.top room few c.in_ok-make_room.ensures.ok c.in_ok-make_room-2.ensures.ok

pub returns-clause-ok : goal.returns-clause-ok
returns-clause-ok c =
    let low = c.self.inside.low.items in
    let later = c.make_room.new.words.items in
    let none : bit_of later c.self.inside.len ≡ false = same_bit low later c.make_room.ensures.same c.self.inside.len ∙ c.self.invariant.past c.self.inside.len (omega arith) in
    flags_more c.self.inside.len later none
    ∙ ap (λ (fs : List Bool). fs ++ false ∷ []) (same_flags c.self.inside.len low later c.make_room.ensures.same ∙ c.self.view_is)

pub returns-in_err-make_room-clause-err : goal.returns-in_err-make_room-clause-err
returns-in_err-make_room-clause-err c =
    on_err c.from_residual.result _ (same_flags c.self.inside.len c.self.inside.low.items c.make_room.new.words.items c.make_room.ensures.same ∙ c.self.view_is)

pub returns-in_err-make_room-2-clause-err : goal.returns-in_err-make_room-2-clause-err
returns-in_err-make_room-2-clause-err c =
    on_err c.from_residual-in_err-make_room-2.result _ (same_flags c.self.inside.len c.self.inside.low.items c.make_room.new.words.items c.make_room.ensures.same ∙ c.self.view_is)
