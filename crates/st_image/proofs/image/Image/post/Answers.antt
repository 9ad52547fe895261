use Rattle.std.proofs.Common.{ℕ, length, slice_get, ◌<◌, ◌≤◌, ◌+◌, ap, ◌∙◌, ◌==◌, cond, arith, ◌≡◌, ◌++◌, [], ◌∷◌, None, refl, sym, subst, inr}
use Rattle.std.proofs.lemmas.Grind.{common_steps}
use Rattle.st_classes.specs.Refusals.{first_of}
use Rattle.st_mailbox.specs.declared.messages.Message.{Message}
use Rattle.st_image.specs.declared.history.Item.TheVariants.{Posted}
use Rattle.st_image.specs.PostRules.{from_client, post_rules}
use Rattle.st_image.specs.ActorViews.{ActorView}
use Rattle.st_image.specs.ActResults.{constants_of}
use Rattle.st_image.specs.Images.{ImageView, image_post_rules, no_room, too_many_posts, world, world_of}
use Rattle.st_image.specs.Clients.{number_of}
use Rattle.st_image.proofs.ClientNumbers.{kept_post}
use Rattle.st_image.proofs.Posting.{IsPosted, posted, posts_room, seen, standing_of}
use Rattle.st_image.proofs.Acts.{accepts_by, kept_is, out_same}
use Rattle.st_image.proofs.Lists.{off_append}
use Rattle.st_image.proofs.Places.{at_all}
use Rattle.st_image.proofs.Showing.{count_is}
use Rattle.st_image.proofs.Sends.{sends_other}
use Rattle.st_image.proofs.CountingChanges.{counts_other}
use Rattle.st_image.proofs.CountingItems.{items_posted}
use Rattle.st_image.proofs.Failing.{failures_other}
use Rattle.st_image.proofs.image.Image.post.Goals as goal

pub invariant_of-self-2 : goal.invariant_of-self-2
invariant_of-self-2 g c =
    let i = c.self.inside in
    let m : Message = from_client c.args.sender c.args.seq c.args.selector c.args.args in
    let allowed : first_of (image_post_rules (seen i.base i.names i.history.items i.settings (standing_of i.earlier i.next_from i.actors.out i.tallies)) c.args.actor m) ≡ None = subst (λ (v : ImageView). first_of (image_post_rules v c.args.actor m) ≡ None) (sym c.self.view_is) c.in-Ok.ensures.answers.0 in
    let items : c.push_reserved.new.self.items ≡ i.history.items ++ Posted c.args.actor m ∷ [] = grind (arith, common_steps) in
    let p : IsPosted i.base i.names i.token c.deliver-place.new.self.list (i.history.items ++ Posted c.args.actor m ∷ []) i.edits_made i.settings c.args.actor c.deliver-place.result = posted i.base i.names i.token i.actors.list c.deliver-place.new.self.list i.history.items i.edits_made i.settings (standing_of i.earlier i.next_from i.actors.out i.tallies) c.deliver-place.result c.args.actor m c.self.invariant.image allowed tt (kept_is _ _ c.deliver-place.ensures.message) c.deliver-place.ensures.count in
    let set : (s : ℕ) → number_of c.set.new.self s ≡ cond (s == c.args.sender) c.args.seq (number_of i.clients s) = λ s. c.set.ensures s ∙ ap (λ (j : ℕ). cond (s == c.args.sender) c.args.seq j) (c.make_room.ensures.numbers s) in
    rw items (record { image = p.image; numbers_of_clients = kept_post i.clients c.set.new.self i.base.clients i.history.items c.args.actor m c.args.sender refl set c.self.invariant.numbers_of_clients; sends = sends_other i.base i.names i.token i.actors.list i.history.items i.edits_made i.settings i.tallies (Posted c.args.actor m) c.self.invariant.image c.self.invariant.sends refl; counts = counts_other i.changes i.history.items (Posted c.args.actor m) (λ a. refl) c.self.invariant.counts; totals = items_posted i.counts i.earlier i.history.items c.args.actor m (posts_room (seen i.base i.names i.history.items i.settings (standing_of i.earlier i.next_from i.actors.out i.tallies)) c.args.actor m allowed) c.self.invariant.totals; compiled = c.self.invariant.compiled; before = c.self.invariant.before; failures = failures_other i.base i.names i.token i.actors.list i.history.items i.edits_made i.settings i.earlier.steps i.failures (Posted c.args.actor m) c.self.invariant.image c.self.invariant.failures refl })

pub returns : goal.returns
returns g c =
    let i = c.self.inside in
    let m : Message = from_client c.args.sender c.args.seq c.args.selector c.args.args in
    let allowed : first_of (image_post_rules (seen i.base i.names i.history.items i.settings (standing_of i.earlier i.next_from i.actors.out i.tallies)) c.args.actor m) ≡ None = subst (λ (v : ImageView). first_of (image_post_rules v c.args.actor m) ≡ None) (sym c.self.view_is) c.in-Ok.ensures.answers.0 in
    let items : c.push_reserved.new.self.items ≡ i.history.items ++ Posted c.args.actor m ∷ [] = grind (arith, common_steps) in
    let p : IsPosted i.base i.names i.token c.deliver-place.new.self.list (i.history.items ++ Posted c.args.actor m ∷ []) i.edits_made i.settings c.args.actor c.deliver-place.result = posted i.base i.names i.token i.actors.list c.deliver-place.new.self.list i.history.items i.edits_made i.settings (standing_of i.earlier i.next_from i.actors.out i.tallies) c.deliver-place.result c.args.actor m c.self.invariant.image allowed tt (kept_is _ _ c.deliver-place.ensures.message) c.deliver-place.ensures.count in
    ((c.in-Ok.ensures.answers.0, (rw (items, out_same _ _ c.deliver-place.ensures.message, ← c.self.view_is) refl, rw items p.place)), tt)

pub invariant_of-self : goal.invariant_of-self
invariant_of-self g c =
    let v = c.self.invariant in
    rw c.make_room.ensures.items (record { image = v.image; numbers_of_clients = λ s. v.numbers_of_clients s ∙ sym (c.make_room.ensures.numbers s); sends = v.sends; counts = v.counts; totals = v.totals; compiled = v.compiled; before = v.before; failures = v.failures })

pub returns-in-Err : goal.returns-in-Err
returns-in-Err g c = rw c.let_go.ensures (c.in-Err.ensures.answers, refl)

pub returns-in_default : goal.returns-in_default
returns-in_default g c = (inr (c.in-Ok.ensures.answers.0, c.let_go-in_default-2.ensures ∙ c.let_go-in_default.ensures), rw c.make_room.ensures.items c.self.view_is)

pub deliver-place-requires-clause-there : goal.deliver-place-requires-clause-there
deliver-place-requires-clause-there g c =
    let i = c.self.inside in
    let w = world_of (constants_of i.names i.settings.capacity) i.base i.history.items in
    let here : c.args.actor.0 < length w.actors = subst (λ (v : ImageView). c.args.actor.0 < length (world v).actors) (sym c.self.view_is) c.in-Ok.ensures.there in
    subst (λ (n : ℕ). c.args.actor.0 < n) (sym (count_is i.token i.actors.list w c.self.invariant.image.shows)) here

pub deliver-place-requires-clause-few : goal.deliver-place-requires-clause-few
deliver-place-requires-clause-few g c = λ k at.
    let i = c.self.inside in
    omega (arith, at_all (λ (x : ActorView). x.accepted ≤ length i.history.items + 1024) i.actors.list c.args.actor.0 k c.self.invariant.image.few_accepted at, c.self.invariant.image.few_items, c.self.invariant.image.numbers.few_items)

pub deliver-place-requires-clause-accepts : goal.deliver-place-requires-clause-accepts
deliver-place-requires-clause-accepts g c =
    let i = c.self.inside in
    let w = world_of (constants_of i.names i.settings.capacity) i.base i.history.items in
    let m : Message = from_client c.args.sender c.args.seq c.args.selector c.args.args in
    let old : ImageView = seen i.base i.names i.history.items i.settings (standing_of i.earlier i.next_from i.actors.out i.tallies) in
    let allowed : first_of (image_post_rules old c.args.actor m) ≡ None = subst (λ (v : ImageView). first_of (image_post_rules v c.args.actor m) ≡ None) (sym c.self.view_is) c.in-Ok.ensures.answers.0 in
    accepts_by i.names i.token i.actors.list w c.args.actor m c.self.invariant.image.shows (off_append (post_rules i.names w (slice_get w.actors c.args.actor.0) m) (no_room old 1 ∷ too_many_posts old ∷ []) allowed).0

pub set-requires : goal.set-requires
set-requires g c = c.in-Ok-make_room.ensures.place

pub push_reserved-requires : goal.push_reserved-requires
push_reserved-requires g c = c.in-Ok-make_room.ensures.room
