use Rattle.std.proofs.Common.{refl, arith, ◌≡◌, ℕ, ◌++◌, [], ◌∷◌, List, length, None, sym, ap, ◌∙◌, subst}
use Rattle.std.proofs.lemmas.Grind.{common_steps}
use Rattle.st_classes.specs.Refusals.{first_of}
use Rattle.st_turn.specs.declared.body.Body.{Body}
use Rattle.st_image.specs.declared.history.Item.TheVariants.{Created}
use Rattle.st_classes.specs.declared.values.ActorId.{ActorId}
use Rattle.st_image.specs.ActResults.{constants_of}
use Rattle.st_image.proofs.Showing.{count_is}
use Rattle.st_image.specs.Images.{ImageView, create_rules, world, world_of}
use Rattle.st_image.specs.ActorViews.{ActorView, new_actor_view}
use Rattle.st_classes.specs.declared.edits.Edit.{Edit}
use Rattle.st_image.proofs.Keeping.{fresh_body}
use Rattle.st_image.proofs.Posting.{seen, standing_of}
use Rattle.st_image.proofs.Creating.{created, few_actors, fresh_with}
use Rattle.st_image.proofs.ClientNumbers.{kept_other}
use Rattle.st_image.proofs.Acts.{kept_is, out_same}
use Rattle.st_image.specs.ClaimsOut.{trimmed}
use Rattle.st_image.proofs.ClaimsTrimmed.{trimmed_push}
use Rattle.st_image.proofs.Sends.{sends_other}
use Rattle.st_image.proofs.CountingChanges.{counts_other}
use Rattle.st_image.proofs.CountingItems.{items_other}
use Rattle.st_image.proofs.Failing.{failures_other}
use Rattle.st_image.proofs.image.Image.create.Goals as goal

pub push-requires-clause-few : goal.push-requires-clause-few
push-requires-clause-few g c =
    let i = c.self.inside in
    let allowed : first_of (create_rules (seen i.base i.names i.history.items i.settings (standing_of i.earlier i.next_from i.actors.out i.tallies)) c.args.class) ≡ None = subst (λ (v : ImageView). first_of (create_rules v c.args.class) ≡ None) (sym c.self.view_is) (sym c.in_default.ensures) in
    few_actors i.base i.names i.token i.actors.list i.history.items i.edits_made i.settings (standing_of i.earlier i.next_from i.actors.out i.tallies) c.args.class c.self.invariant.image allowed

pub invariant_of-self-2 : goal.invariant_of-self-2
invariant_of-self-2 g c =
    let i = c.self.inside in
    let allowed : first_of (create_rules (seen i.base i.names i.history.items i.settings (standing_of i.earlier i.next_from i.actors.out i.tallies)) c.args.class) ≡ None = subst (λ (v : ImageView). first_of (create_rules v c.args.class) ≡ None) (sym c.self.view_is) (sym c.in_default.ensures) in
    let body : c.in_ok-body.body ≡ fresh_body i.token c.args.class = c.in_ok-body.ensures ∙ ap (fresh_with c.args.class) c.slots-slots.ensures ∙ ap (λ (es : List Edit). fresh_body es c.args.class) c.shown.ensures in
    let items : c.push-2.new.self.items ≡ i.history.items ++ Created c.args.class ∷ [] = grind (arith, common_steps) in
    let pushed : c.push.new.self.list ≡ i.actors.list ++ new_actor_view c.args.class i.settings.capacity c.in_ok-body.body ∷ [] = kept_is _ _ c.in_ok-push.ensures.ok ∙ ap (λ (k : ActorView). i.actors.list ++ k ∷ []) c.in_ok-actor.ensures in
    let actors : c.push.new.self.list ≡ i.actors.list ++ new_actor_view c.args.class i.settings.capacity (fresh_body i.token c.args.class) ∷ [] = subst (λ (b : Body). c.push.new.self.list ≡ i.actors.list ++ new_actor_view c.args.class i.settings.capacity b ∷ []) body pushed in
    rw items (record { image = created i.base i.names i.token i.actors.list c.push.new.self.list i.history.items i.edits_made i.settings (standing_of i.earlier i.next_from i.actors.out i.tallies) c.args.class c.self.invariant.image allowed actors; numbers_of_clients = kept_other i.clients i.base.clients i.history.items (Created c.args.class) (λ qs. refl) c.self.invariant.numbers_of_clients; sends = sends_other i.base i.names i.token i.actors.list i.history.items i.edits_made i.settings i.tallies (Created c.args.class) c.self.invariant.image c.self.invariant.sends refl; counts = counts_other i.changes i.history.items (Created c.args.class) (λ a. refl) c.self.invariant.counts; totals = items_other i.counts i.earlier i.history.items (Created c.args.class) refl refl c.self.invariant.totals; compiled = c.self.invariant.compiled; before = c.self.invariant.before; failures = failures_other i.base i.names i.token i.actors.list i.history.items i.edits_made i.settings i.earlier.steps i.failures (Created c.args.class) c.self.invariant.image c.self.invariant.failures refl })

pub returns : goal.returns
returns g c =
    let i = c.self.inside in
    let items : c.push-2.new.self.items ≡ i.history.items ++ Created c.args.class ∷ [] = grind (arith, common_steps) in
    let out : trimmed c.push.new.self.out ≡ trimmed i.actors.out = ap trimmed (out_same _ _ c.in_ok-push.ensures.ok) ∙ trimmed_push i.actors.out in
    let number : c.len-number.result ≡ length (world c.args.self.now).actors = c.len-number.ensures.value ∙ count_is i.token i.actors.list (world_of (constants_of i.names i.settings.capacity) i.base i.history.items) c.self.invariant.image.shows ∙ ap (λ (v : ImageView). length (world v).actors) c.self.view_is in
    ((sym c.in_default.ensures, (rw (items, out, ← c.self.view_is) refl, ap (λ (n : ℕ). let x : ActorId = record { 0 = n } in x) number)), tt)

pub invariant_of-self : goal.invariant_of-self
invariant_of-self g c = rw c.reserve.ensures.items c.self.invariant

pub invariant_of-self-in_err-body : goal.invariant_of-self-in_err-body
invariant_of-self-in_err-body g c = rw c.reserve.ensures.items c.self.invariant

pub invariant_of-self-in_err-actor : goal.invariant_of-self-in_err-actor
invariant_of-self-in_err-actor g c = rw c.reserve.ensures.items c.self.invariant

pub invariant_of-self-in_err-push : goal.invariant_of-self-in_err-push
invariant_of-self-in_err-push g c = rw (c.reserve.ensures.items, c.in_err-push.ensures.err) c.self.invariant
