use Rattle.std.proofs.Common.{◌≡◌, [], ◌∷◌, ap, sym, ◌∙◌, Some, subst, slice_get, List}
use Rattle.st_classes.specs.Refusals.{first_of}
use Rattle.st_image.specs.Worlds.{World}
use Rattle.st_image.specs.Images.{ImageView, image_post_rules, no_room, too_many_posts, world, world_of}
use Rattle.st_image.specs.PostRules.{post_rules, sender_last}
use Rattle.st_image.specs.ActResults.{constants_of}
use Rattle.st_image.proofs.Posting.{seen, standing_of}
use Rattle.st_classes.specs.declared.edits.Edit.{Edit}
use Rattle.st_image.specs.ActorViews.{Shows}
use Rattle.st_image.proofs.Lists.{first_here}
use Rattle.st_image.proofs.image.Image.post_refusal.Goals as goal

pub returns-in-Some-clause-value : goal.returns-in-Some-clause-value
returns-in-Some-clause-value g c =
    let i = c.self.inside in
    let m = c.args.message.now in
    let w : World = world_of (constants_of i.names i.settings.capacity) i.base i.history.items in
    let old : ImageView = seen i.base i.names i.history.items i.settings (standing_of i.earlier i.next_from i.actors.out i.tallies) in
    let last : sender_last w m.sender ≡ c.sender_last-last.result = ap (λ (v : ImageView). sender_last (world v) m.sender) c.self.view_is ∙ sym c.sender_last-last.ensures in
    let here : first_of (post_rules i.names w (slice_get w.actors c.args.actor.0) m) ≡ Some c.in-Some.refusal = sym (c.post_refusal.ensures.value w (subst (λ (es : List Edit). Shows es i.actors.list w) (sym c.shown.ensures) c.self.invariant.image.shows) last) ∙ c.in-Some.is in
    subst (λ (v : ImageView). Some c.in-Some.refusal ≡ first_of (image_post_rules v c.args.actor m)) c.self.view_is (sym (first_here (post_rules i.names w (slice_get w.actors c.args.actor.0) m) (no_room old 1 ∷ too_many_posts old ∷ []) c.in-Some.refusal here))
