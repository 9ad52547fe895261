use Rattle.std.proofs.Common.{◌≡◌, ◌<◌, Some, length, slice_get, sym, subst, ap}
use Rattle.st_image.specs.ActorViews.{ActorView, ActorsView, is_ready_view}
use Rattle.st_image.proofs.FreeOnes.{here, put_view, same_free}
use Rattle.st_image.proofs.actors.Actors.set_last.Goals as goal

pub invariant_of-self : goal.invariant_of-self
invariant_of-self g c =
    let i = c.self.inside in
    let v : ActorsView = record { list = i.items.items; out = i.out.items } in
    let k : ActorView = c.index_mut-item.result.now in
    let within : c.args.actor.0 < length i.items.items = subst (λ (x : ActorsView). c.args.actor.0 < length x.list) (sym c.self.view_is) c.requires in
    let at : slice_get i.items.items c.args.actor.0 ≡ Some k = here i.items.items c.args.actor.0 k within c.index_mut-item.ensures.value in
    same_free v i.free c.args.actor.0 k c.set_last.new.self c.self.invariant at (ap is_ready_view c.set_last.ensures)

pub returns : goal.returns
returns g c =
    let i = c.self.inside in
    let v : ActorsView = record { list = i.items.items; out = i.out.items } in
    let k : ActorView = c.index_mut-item.result.now in
    let within : c.args.actor.0 < length i.items.items = subst (λ (x : ActorsView). c.args.actor.0 < length x.list) (sym c.self.view_is) c.requires in
    let at : slice_get i.items.items c.args.actor.0 ≡ Some k = here i.items.items c.args.actor.0 k within c.index_mut-item.ensures.value in
    put_view (λ (x : ActorView). record x { last = c.args.number }) v c.args.self.now c.args.actor.0 k c.set_last.new.self c.self.view_is at c.set_last.ensures
