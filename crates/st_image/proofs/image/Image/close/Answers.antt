use Rattle.std.proofs.Common.{arith, ◌≡◌, ◌++◌, [], ◌∷◌, None, refl, sym, subst, slice_get}
use Rattle.std.proofs.lemmas.Grind.{common_steps}
use Rattle.st_classes.specs.Refusals.{first_of}
use Rattle.st_image.specs.declared.history.Item.TheVariants.{Closed}
use Rattle.st_image.specs.Images.{ImageView, close_rules, world, world_of}
use Rattle.st_image.specs.ActResults.{constants_of}
use Rattle.st_image.proofs.ClientNumbers.{kept_other}
use Rattle.st_image.proofs.Closing.{closed}
use Rattle.st_image.proofs.Posting.{seen, standing_of}
use Rattle.st_image.proofs.Acts.{kept_is}
use Rattle.st_image.proofs.Sends.{sends_other}
use Rattle.st_image.proofs.CountingChanges.{counts_other}
use Rattle.st_image.proofs.CountingItems.{items_other}
use Rattle.st_image.proofs.Failing.{failures_other}
use Rattle.st_image.proofs.image.Image.close.Goals as goal

pub invariant_of-self-2 : goal.invariant_of-self-2
invariant_of-self-2 g c =
    let i = c.self.inside in
    let allowed : first_of (close_rules (seen i.base i.names i.history.items i.settings (standing_of i.earlier i.next_from i.actors.out i.tallies)) (slice_get (world_of (constants_of i.names i.settings.capacity) i.base i.history.items).actors c.args.actor.0)) ≡ None = subst (λ (v : ImageView). first_of (close_rules v (slice_get (world v).actors c.args.actor.0)) ≡ None) (sym c.self.view_is) (sym c.in_default.ensures.value) in
    let items : c.push.new.self.items ≡ i.history.items ++ Closed c.args.actor ∷ [] = grind (arith, common_steps) in
    rw items (record { image = closed i.base i.names i.token i.actors.list c.close.new.self.list i.history.items i.edits_made i.settings (standing_of i.earlier i.next_from i.actors.out i.tallies) c.args.actor c.self.invariant.image allowed (kept_is _ _ c.close.ensures); numbers_of_clients = kept_other i.clients i.base.clients i.history.items (Closed c.args.actor) (λ qs. refl) c.self.invariant.numbers_of_clients; sends = sends_other i.base i.names i.token i.actors.list i.history.items i.edits_made i.settings i.tallies (Closed c.args.actor) c.self.invariant.image c.self.invariant.sends refl; counts = counts_other i.changes i.history.items (Closed c.args.actor) (λ a. refl) c.self.invariant.counts; totals = items_other i.counts i.earlier i.history.items (Closed c.args.actor) refl refl c.self.invariant.totals; compiled = c.self.invariant.compiled; before = c.self.invariant.before; failures = failures_other i.base i.names i.token i.actors.list i.history.items i.edits_made i.settings i.earlier.steps i.failures (Closed c.args.actor) c.self.invariant.image c.self.invariant.failures refl })
