use Rattle.std.proofs.Common.{arith, ◌≡◌, ◌<◌, ◌++◌, [], ◌∷◌, length, slice_set, sym, subst}
use Rattle.std.proofs.lemmas.Grind.{common_steps}
use Rattle.st_image.specs.ActorViews.{ActorsView}
use Rattle.st_image.proofs.FreeOnes.{push_any}
use Rattle.st_image.proofs.actors.Actors.add.Goals as goal

pub invariant_of-self-2 : goal.invariant_of-self-2
invariant_of-self-2 g c =
    let i = c.self.inside in
    let v : ActorsView = record { list = i.items.items; out = i.out.items } in
    let kept : c.push_reserved.new.self.items ≡ i.items.items ++ c.args.actor ∷ [] = grind (arith, common_steps) in
    let out : c.push_reserved-2.new.self.items ≡ i.out.items ++ 0 ∷ [] = grind (arith, common_steps) in
    let few : length i.items.items < 65536 = subst (λ (x : ActorsView). length x.list < 65536) (sym c.self.view_is) c.requires.few in
    let place : c.len-number.result ≡ length i.items.items = grind (arith, common_steps) in
    rw (kept, out) (push_any v i.free c.set.new.self c.args.actor c.len-number.result c.is_ready-is_ready.result c.self.invariant few place c.is_ready-is_ready.ensures (subst (λ f. c.set.new.self ≡ slice_set f c.len-number.result c.is_ready-is_ready.result) c.in-Ok.ensures.flag c.set.ensures))

pub invariant_of-self : goal.invariant_of-self
invariant_of-self g c = rw (c.make_room.ensures.items, c.make_room.ensures.counts, c.in_default.ensures.err) c.self.invariant
