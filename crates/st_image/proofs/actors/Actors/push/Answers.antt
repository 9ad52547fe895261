use Rattle.std.proofs.Common.{arith, ◌≡◌, ◌<◌, ◌++◌, [], ◌∷◌, length, sym, subst}
use Rattle.std.proofs.lemmas.Grind.{common_steps}
use Rattle.st_image.specs.ActorViews.{ActorsView}
use Rattle.st_image.proofs.FreeOnes.{push_free}
use Rattle.st_image.proofs.actors.Actors.push.Goals as goal

pub invariant_of-self-2 : goal.invariant_of-self-2
invariant_of-self-2 g c =
    let i = c.self.inside in
    let v : ActorsView = record { list = i.items.items; out = i.out.items } in
    let kept : c.push_reserved.new.self.items ≡ i.items.items ++ c.args.actor ∷ [] = grind (arith, common_steps) in
    let out : c.push_reserved-2.new.self.items ≡ i.out.items ++ 0 ∷ [] = grind (arith, common_steps) in
    let few : length i.items.items < 65536 = subst (λ (x : ActorsView). length x.list < 65536) (sym c.self.view_is) c.requires.few in
    rw (kept, out, c.in-Ok.ensures.flag) (push_free v i.free c.args.actor c.self.invariant few c.requires.idle)

pub invariant_of-self : goal.invariant_of-self
invariant_of-self g c = rw (c.make_room.ensures.items, c.make_room.ensures.counts, c.in_default.ensures.err) c.self.invariant

pub returns-in_default-clause-err : goal.returns-in_default-clause-err
returns-in_default-clause-err g c = rw (c.make_room.ensures.items, c.make_room.ensures.counts) c.self.view_is
