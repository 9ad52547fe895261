use Rattle.std.proofs.Common.{arith, ◌≡◌, ℕ, ◌+◌, ◌*◌, ◌≤◌, length, refl, ap, sym, ◌∙◌, slice_get, subst, []}
use Rattle.st_image.specs.Worlds.{Constants, World}
use Rattle.st_image.specs.Parts.{rebase}
use Rattle.st_image.specs.Senders.{InSendingOrder}
use Rattle.st_image.specs.Counts.{edits_of, posts_of, ran_of, weigh}
use Rattle.st_image.specs.Images.{ImageView, counts_of, edits_made, world, world_of}
use Rattle.st_image.specs.Changes.{change_count, changes_in}
use Rattle.st_image.specs.Commits.{changed_at}
use Rattle.st_image.specs.ActResults.{constants_of}
use Rattle.st_image.specs.ImageInvariant.{FitsBase, turns_open}
use Rattle.st_image.proofs.Acts.{kept_is, out_same}
use Rattle.st_image.proofs.ChangeBounds.{changes_in_all}
use Rattle.st_image.proofs.Checkpointing.{begun_anew}
use Rattle.st_image.proofs.ClientNumbers.{kept_last}
use Rattle.st_image.proofs.Renewal.{edits_bounded, fits_anew, image_anew, order_anew}
use Rattle.st_image.proofs.Sends.{sends_new}
use Rattle.st_image.proofs.image.Image.checkpoint_into.Goals as goal

pub invariant_of-self : goal.invariant_of-self
invariant_of-self g c =
    let i = c.self.inside in
    let empty : c.replace.new.dest.items ≡ [] = ap (λ v. v.items) c.replace.ensures.after ∙ c.new.ensures.items in
    let e = c.in_ok-earlier.earlier in
    let cs : Constants = constants_of i.names i.settings.capacity in
    let w : World = world_of cs i.base i.history.items in
    let steps : ℕ = i.earlier.steps + weigh ran_of i.history.items in
    let now : w ≡ world c.args.self.now = ap (λ (v : ImageView). world v) c.self.view_is in
    let base : c.in_ok-base.base ≡ rebase w = c.in_ok-base.ensures ∙ ap rebase (sym now) in
    let order : InSendingOrder (rebase w) = subst (λ (x : World). InSendingOrder (rebase x)) (sym now) (order_anew (world c.args.self.now) c.can_be_base.ensures.senders.1) in
    let edits_were : e.edits ≡ i.earlier.edits + weigh edits_of i.history.items = c.in_ok-earlier.ensures.edits ∙ ap edits_made (sym c.self.view_is) in
    let posts_were : e.posts ≡ i.earlier.posts + weigh posts_of i.history.items = c.in_ok-earlier.ensures.posts ∙ ap (λ (v : ImageView). (counts_of v).posts) (sym c.self.view_is) in
    let steps_were : e.steps ≡ steps = c.in_ok-earlier.ensures.steps ∙ ap (λ (v : ImageView). (counts_of v).steps) (sym c.self.view_is) in
    let changed : (a : ℕ) → change_count e.changes a ≡ change_count i.earlier.changes a + changes_in i.history.items a = λ a. c.in_ok-earlier.ensures.changes a ∙ ap (λ (v : ImageView). changed_at v a) (sym c.self.view_is) in
    let bounds : (a : ℕ) → change_count i.earlier.changes a + changes_in i.history.items a ≤ 2 * steps + turns_open (slice_get w.actors a) = λ a. changes_in_all a cs i.base w i.history.items i.earlier.steps steps (change_count i.earlier.changes a) (c.self.invariant.before.changes a) refl c.self.invariant.image.lawful in
    let few : i.earlier.edits + weigh edits_of i.history.items ≤ length w.edits = edits_bounded cs i.base w i.history.items i.earlier.edits c.self.invariant.before.edits c.self.invariant.image.lawful in
    let fits : FitsBase e (rebase w) = fits_anew w e steps (λ a. change_count i.earlier.changes a + changes_in i.history.items a) (omega (arith, edits_were, few)) steps_were changed bounds in
    rw (base, kept_is _ _ c.begin_anew.ensures, empty, c.new-2.ensures, c.new-3.ensures, c.in_ok-failures.ensures) (record {
      image = image_anew i.base i.names i.token i.actors.list i.history.items i.edits_made i.settings c.self.invariant.image order;
      numbers_of_clients = λ s. kept_last cs i.base w i.history.items i.clients s c.self.invariant.image.lawful c.self.invariant.numbers_of_clients;
      sends = sends_new i.names (rebase w) i.settings;
      counts = λ a. refl;
      totals = record { counts = refl; few_posts = omega (arith, posts_were, c.self.invariant.totals.few_posts); few_steps = omega (arith, steps_were, c.self.invariant.totals.few_steps) };
      compiled = c.self.invariant.compiled;
      before = fits;
      failures = refl;
    })

pub returns-clause-ok : goal.returns-clause-ok
returns-clause-ok g c =
    let i = c.self.inside in
    let empty : c.replace.new.dest.items ≡ [] = ap (λ v. v.items) c.replace.ensures.after ∙ c.new.ensures.items in
    let cs : Constants = constants_of i.names i.settings.capacity in
    let w : World = world_of cs i.base i.history.items in
    let now : w ≡ world c.args.self.now = ap (λ (v : ImageView). world v) c.self.view_is in
    let base : c.in_ok-base.base ≡ rebase w = c.in_ok-base.ensures ∙ ap rebase (sym now) in
    begun_anew c.args.self.now _ (rw (← c.self.view_is, base, out_same _ _ c.begin_anew.ensures, empty, c.new-2.ensures) refl) c.in_ok-earlier.ensures.changes c.in_ok-earlier.ensures.edits c.in_ok-earlier.ensures.posts c.in_ok-earlier.ensures.steps
