use Rattle.std.proofs.Common.{arith, ◌≡◌, ℕ, ◌+◌, ◌*◌, ◌≤◌, refl, ap, slice_get}
use Rattle.st_image.specs.Worlds.{World}
use Rattle.st_image.specs.Counts.{ran_of, weigh}
use Rattle.st_image.specs.Images.{ImageView, world, world_of}
use Rattle.st_image.specs.Changes.{change_count, changes_in}
use Rattle.st_image.specs.ActResults.{constants_of}
use Rattle.st_image.specs.ImageInvariant.{turns_open}
use Rattle.st_image.proofs.ChangeBounds.{changes_in_all, open_once}
use Rattle.st_image.proofs.image.Image.changed.Goals as goal

pub overflow_add-result : goal.overflow_add-result
overflow_add-result g c =
    let i = c.self.inside in
    let a : ℕ = c.args.actor.0 in
    let w : World = world_of (constants_of i.names i.settings.capacity) i.base i.history.items in
    let steps : ℕ = i.earlier.steps + weigh ran_of i.history.items in
    let few : change_count i.earlier.changes a + changes_in i.history.items a ≤ 2 * steps + turns_open (slice_get w.actors a) = changes_in_all a (constants_of i.names i.settings.capacity) i.base w i.history.items i.earlier.steps steps (change_count i.earlier.changes a) (c.self.invariant.before.changes a) refl c.self.invariant.image.lawful in
    omega (arith, few, open_once (slice_get w.actors a), c.self.invariant.totals.few_steps, c.self.invariant.counts a, c.changes.ensures, c.count.ensures)

pub returns-clause-few : goal.returns-clause-few
returns-clause-few g c =
    let i = c.self.inside in
    let a : ℕ = c.args.actor.0 in
    let w : World = world_of (constants_of i.names i.settings.capacity) i.base i.history.items in
    let steps : ℕ = i.earlier.steps + weigh ran_of i.history.items in
    let few : change_count i.earlier.changes a + changes_in i.history.items a ≤ 2 * steps + turns_open (slice_get w.actors a) = changes_in_all a (constants_of i.names i.settings.capacity) i.base w i.history.items i.earlier.steps steps (change_count i.earlier.changes a) (c.self.invariant.before.changes a) refl c.self.invariant.image.lawful in
    let turns : turns_open (slice_get w.actors a) ≡ turns_open (slice_get (world c.args.self.now).actors a) = ap (λ (v : ImageView). turns_open (slice_get (world v).actors a)) c.self.view_is in
    omega (arith, few, turns, c.self.invariant.totals.few_steps, c.self.invariant.counts a, c.changes.ensures, c.count.ensures)
