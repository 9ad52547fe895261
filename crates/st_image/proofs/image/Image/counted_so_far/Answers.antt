use Rattle.std.proofs.Common.{arith, ◌≡◌, ℕ, ◌+◌, ◌*◌, ◌≤◌, refl, ap, ◌∙◌, slice_get}
use Rattle.st_image.specs.Worlds.{World}
use Rattle.st_image.specs.Counts.{ran_of, weigh}
use Rattle.st_image.specs.declared.counts.Counts.{Counts}
use Rattle.st_image.specs.Commits.{changed_at}
use Rattle.st_image.specs.EarlierCounts.{EarlierCounts}
use Rattle.st_image.specs.Images.{ImageView, counts_of, world_of}
use Rattle.st_image.specs.Changes.{change_count, changes_in}
use Rattle.st_image.specs.ActResults.{constants_of}
use Rattle.st_image.specs.ImageInvariant.{turns_open}
use Rattle.st_image.proofs.ChangeBounds.{changes_in_all, open_once}
use Rattle.st_image.proofs.Lists.{ok_by}
use Rattle.st_image.proofs.image.Image.counted_so_far.Goals as goal

pub with-requires : goal.with-requires
with-requires g c = λ a.
    let i = c.self.inside in
    let w : World = world_of (constants_of i.names i.settings.capacity) i.base i.history.items in
    let steps : ℕ = i.earlier.steps + weigh ran_of i.history.items in
    let few : change_count i.earlier.changes a + changes_in i.history.items a ≤ 2 * steps + turns_open (slice_get w.actors a) = changes_in_all a (constants_of i.names i.settings.capacity) i.base w i.history.items i.earlier.steps steps (change_count i.earlier.changes a) (c.self.invariant.before.changes a) refl c.self.invariant.image.lawful in
    omega (arith, few, open_once (slice_get w.actors a), c.self.invariant.totals.few_steps, c.self.invariant.counts a)

pub returns-clause-changes : goal.returns-clause-changes
returns-clause-changes g c =
    let i = c.self.inside in
    let now : (a : ℕ) → change_count i.earlier.changes a + change_count i.changes a ≡ changed_at c.args.self.now a = λ a. ap (λ (n : ℕ). change_count i.earlier.changes a + n) (c.self.invariant.counts a) ∙ ap (λ (v : ImageView). changed_at v a) c.self.view_is in
    ok_by c.with.result (λ (e : EarlierCounts). (a : ℕ) → change_count e.changes a ≡ change_count i.earlier.changes a + change_count i.changes a) (λ (e : EarlierCounts). (a : ℕ) → change_count e.changes a ≡ changed_at c.args.self.now a) (λ e h a. h a ∙ now a) c.with.ensures.changes

pub returns-clause-posts : goal.returns-clause-posts
returns-clause-posts g c = ok_by c.with.result (λ (e : EarlierCounts). e.posts ≡ c.counted-counts.result.posts) (λ (e : EarlierCounts). e.posts ≡ (counts_of c.args.self.now).posts) (λ e h. h ∙ ap (λ (x : Counts). x.posts) c.counted-counts.ensures.counts) c.with.ensures.posts

pub returns-clause-steps : goal.returns-clause-steps
returns-clause-steps g c = ok_by c.with.result (λ (e : EarlierCounts). e.steps ≡ c.counted-counts.result.steps) (λ (e : EarlierCounts). e.steps ≡ (counts_of c.args.self.now).steps) (λ e h. h ∙ ap (λ (x : Counts). x.steps) c.counted-counts.ensures.counts) c.with.ensures.steps
