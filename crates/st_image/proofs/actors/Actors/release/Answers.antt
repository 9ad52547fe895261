use Rattle.std.proofs.Common.{arith, ◌≡◌, ◌<◌, Some, List, length, slice_get, ap, ◌∙◌, ℕ, slice_set}
use Rattle.std.proofs.lemmas.Grind.{common_steps}
use Rattle.st_image.specs.Worlds.{change_at}
use Rattle.st_image.specs.ClaimsOut.{one_less}
use Rattle.st_image.specs.ActorViews.{ActorView, ActorsView}
use Rattle.st_image.proofs.FreeOnes.{here, mark_out, put_count}
use Rattle.st_image.proofs.actors.Actors.release.Goals as goal

pub invariant_of-self : goal.invariant_of-self
invariant_of-self g c =
    let i = c.self.inside in
    let v : ActorsView = record { list = i.items.items; out = i.out.items } in
    let within : c.args.actor.0 < length i.items.items = grind (arith, common_steps) in
    let k : ActorView = c.index-item.result.now in
    let at : slice_get i.items.items c.args.actor.0 ≡ Some k = here i.items.items c.args.actor.0 k within c.index-item.ensures in
    mark_out v i.free c.set.new.self c.args.actor.0 k c.is_ready.result c.is_free-free.result c.one_less-out.result c.self.invariant at within c.is_ready.ensures c.is_free-free.ensures c.set.ensures

pub returns : goal.returns
returns g c =
    let i = c.self.inside in
    let v : ActorsView = record { list = i.items.items; out = i.out.items } in
    let within : c.args.actor.0 < length i.items.items = grind (arith, common_steps) in
    let put : slice_set i.out.items c.args.actor.0 c.one_less-out.result ≡ change_at one_less c.args.actor.0 i.out.items = put_count one_less i.out.items c.args.actor.0 c.index.result.now c.one_less-out.result (omega (arith, within, c.self.invariant.each_count)) c.index.ensures c.one_less-out.ensures in
    ap (λ (ns : List ℕ). let new : ActorsView = record { list = i.items.items; out = ns } in new) put ∙ ap (λ (x : ActorsView). let new : ActorsView = record x { out = change_at one_less c.args.actor.0 x.out } in new) c.self.view_is
