use Rattle.std.proofs.Common.{◌≡◌, refl, sym, ◌∙◌, slice_get, subst}
use Rattle.std.specs.Option.{option_map}
use Rattle.st_image.specs.Images.{ImageView, world, world_of}
use Rattle.st_image.specs.ActorViews.{actor_view}
use Rattle.st_image.specs.ActResults.{constants_of}
use Rattle.st_image.proofs.Showing.{being_of}
use Rattle.st_image.proofs.image.Image.actor.Goals as goal

pub returns : goal.returns
returns g c =
    let i = c.self.inside in
    let o = being_of i.token i.actors.list (world_of (constants_of i.names i.settings.capacity) i.base i.history.items) c.args.actor.0 (slice_get i.actors.list c.args.actor.0) c.self.invariant.image.shows refl in
    let here : option_map actor_view (slice_get (world c.args.self.now).actors c.args.actor.0) ≡ slice_get i.actors.list c.args.actor.0 = subst (λ (v : ImageView). option_map actor_view (slice_get (world v).actors c.args.actor.0) ≡ slice_get i.actors.list c.args.actor.0) c.self.view_is o in
    c.get.ensures ∙ sym here
