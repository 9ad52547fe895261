use Rattle.std.proofs.Common.{arith, Bool, cond, ◌≡◌, ◌+◌, ◌<◌, ◌++◌, [], ◌∷◌, List, length, None, true, false, refl, ap, sym, ◌∙◌, subst, slice_get, append-nil}
use Rattle.std.proofs.lemmas.Grind.{common_steps}
use Rattle.std.proofs.lemmas.Option.{slice_get_within}
use Rattle.st_classes.specs.declared.edits.Edit.{Edit}
use Rattle.st_classes.specs.Refusals.{first_of}
use Rattle.st_turn.specs.declared.body.Body.{Body}
use Rattle.st_turn.specs.Idle.{is_idle}
use Rattle.st_turn.specs.BodyFits.{FitsSome}
use Rattle.st_image.specs.declared.image.Image.TheInside.{Inside}
use Rattle.st_image.specs.declared.history.Item.{Item}
use Rattle.st_image.specs.declared.history.Item.TheVariants.{Begun}
use Rattle.st_image.specs.Worlds.{change_at}
use Rattle.st_image.specs.Images.{ImageView, Standing, world, world_of}
use Rattle.st_image.specs.ActorViews.{ActorsView, view_checked_out}
use Rattle.st_image.specs.ActResults.{constants_of}
use Rattle.st_image.specs.Commits.{HasCheckedOut, changed_at, checkout_rules, idle_at, new_claim}
use Rattle.st_image.specs.Changes.{change_count}
use Rattle.st_image.specs.ClaimsOut.{one_more}
use Rattle.st_image.specs.ImageInvariant.{IsImage}
use Rattle.st_image.proofs.Outer.{on_err}
use Rattle.st_image.proofs.Posting.{seen, standing_of}
use Rattle.st_image.proofs.Running.{fits_some}
use Rattle.st_image.proofs.CheckingOut.{IsOut, begun_items, checked, hands, idle_there, outs}
use Rattle.st_image.proofs.ClientNumbers.{kept_other}
use Rattle.st_image.proofs.Sends.{sends_other}
use Rattle.st_image.proofs.CountingChanges.{counts_one, counts_same, few_changes, stamp_is}
use Rattle.st_image.proofs.CountingItems.{items_other}
use Rattle.st_image.proofs.Failing.{failures_other}
use Rattle.st_image.proofs.image.Image.hand_out.Goals as goal
use Rattle.st_image.proofs.image.Image.hand_out.Goals.{then-begins+in_ok-reserve, else-begins}

pub claim_in-requires : goal.claim_in-requires
claim_in-requires g c =
    let i = c.self.inside in
    let beside : Standing = standing_of i.earlier i.next_from i.actors.out i.tallies in
    let allowed : first_of (checkout_rules (seen i.base i.names i.history.items i.settings beside) (slice_get (world_of (constants_of i.names i.settings.capacity) i.base i.history.items).actors c.args.actor.0)) ≡ None = subst (λ (v : ImageView). first_of (checkout_rules v (slice_get (world v).actors c.args.actor.0)) ≡ None) (sym c.self.view_is) c.requires.allowed in
    let k = hands i.base i.names i.token i.actors.list i.history.items i.edits_made i.settings beside c.args.actor c.self.invariant.image allowed in
    let out : IsOut i.base i.names i.token (change_at view_checked_out c.args.actor.0 i.actors.list) _ i.edits_made i.settings c.args.actor (view_checked_out k.0).body = outs i.base i.names i.token i.actors.list i.history.items i.edits_made i.settings beside c.args.actor k.0 (is_idle k.0.body.phase) c.self.invariant.image allowed k.1 refl in
    let fits : FitsSome i.token c.args.actor (view_checked_out k.0).body = fits_some i.token c.args.actor (view_checked_out k.0).body out.runs in
    subst (λ (es : List Edit). FitsSome es c.args.actor c.in_ok-body.body) (sym c.in_ok-again.ensures) (subst (FitsSome i.token c.args.actor) (sym (c.in_ok-body.ensures.body k.0 k.1)) fits)

pub raise-requires-clause-few : goal.raise-requires-clause-few
raise-requires-clause-few g c =
    let i = c.self.inside in
    omega (arith, c.make_room.ensures.same c.args.actor.0, c.self.invariant.counts c.args.actor.0, few_changes i.history.items c.args.actor.0, c.self.invariant.image.few_items, c.self.invariant.image.numbers.few_items)

pub check_out-next-requires : goal.check_out-next-requires
check_out-next-requires g c =
    let i = c.self.inside in
    let beside : Standing = standing_of i.earlier i.next_from i.actors.out i.tallies in
    let allowed : first_of (checkout_rules (seen i.base i.names i.history.items i.settings beside) (slice_get (world_of (constants_of i.names i.settings.capacity) i.base i.history.items).actors c.args.actor.0)) ≡ None = subst (λ (v : ImageView). first_of (checkout_rules v (slice_get (world v).actors c.args.actor.0)) ≡ None) (sym c.self.view_is) c.requires.allowed in
    let k = hands i.base i.names i.token i.actors.list i.history.items i.edits_made i.settings beside c.args.actor c.self.invariant.image allowed in
    let moved : c.if-begins.self-inside.actors ≡ c.body_to_check_out.new.self = elim c.if-begins.branch [ then-begins+in_ok-reserve w ↦ ap (λ (x : Inside _). x.actors) w.self-inside-is | else-begins w ↦ ap (λ (x : Inside _). x.actors) w.self-inside-is ] in
    let same : c.if-begins.self-inside.actors ≡ i.actors = moved ∙ c.body_to_check_out.ensures.same in
    subst (λ (v : ActorsView). c.args.actor.0 < length v.list) (sym same) (slice_get_within i.actors.list c.args.actor.0 k.0 k.1)

pub invariant_of-self-2 : goal.invariant_of-self-2
invariant_of-self-2 g c =
    let i = c.self.inside in
    let beside : Standing = standing_of i.earlier i.next_from i.actors.out i.tallies in
    let allowed : first_of (checkout_rules (seen i.base i.names i.history.items i.settings beside) (slice_get (world_of (constants_of i.names i.settings.capacity) i.base i.history.items).actors c.args.actor.0)) ≡ None = subst (λ (v : ImageView). first_of (checkout_rules v (slice_get (world v).actors c.args.actor.0)) ≡ None) (sym c.self.view_is) c.requires.allowed in
    let k = hands i.base i.names i.token i.actors.list i.history.items i.edits_made i.settings beside c.args.actor c.self.invariant.image allowed in
    let moved : c.if-begins.self-inside.actors ≡ c.body_to_check_out.new.self = elim c.if-begins.branch [ then-begins+in_ok-reserve w ↦ ap (λ (x : Inside _). x.actors) w.self-inside-is | else-begins w ↦ ap (λ (x : Inside _). x.actors) w.self-inside-is ] in
    let same : c.if-begins.self-inside.actors ≡ i.actors = moved ∙ c.body_to_check_out.ensures.same in
    let put : c.check_out-next.new.self ≡ (let v : ActorsView = record { list = change_at view_checked_out c.args.actor.0 i.actors.list; out = change_at one_more c.args.actor.0 i.actors.out } in v) = c.check_out-next.ensures.checked ∙ ap (λ (x : ActorsView). let v : ActorsView = record { list = change_at view_checked_out c.args.actor.0 x.list; out = change_at one_more c.args.actor.0 x.out } in v) same in
    let phase : c.args.begins ≡ is_idle k.0.body.phase = c.requires.begins ∙ ap (λ (v : ImageView). idle_at (slice_get (world v).actors c.args.actor.0)) (sym c.self.view_is) ∙ idle_there i.token i.actors.list (world_of (constants_of i.names i.settings.capacity) i.base i.history.items) c.args.actor k.0 c.self.invariant.image.shows k.1 in
    elim c.if-begins.branch [
      | then-begins+in_ok-reserve w ↦ (
          let out : IsOut i.base i.names i.token (change_at view_checked_out c.args.actor.0 i.actors.list) (i.history.items ++ begun_items true c.args.actor) i.edits_made i.settings c.args.actor (view_checked_out k.0).body = outs i.base i.names i.token i.actors.list i.history.items i.edits_made i.settings beside c.args.actor k.0 true c.self.invariant.image allowed k.1 (sym phase ∙ w.if-begins.true) in
          let items : w.push.new.self.items ≡ i.history.items ++ Begun c.args.actor ∷ [] = grind (arith, common_steps) in
          rw (w.self-inside-is, items, put) (record { image = out.image; numbers_of_clients = kept_other i.clients i.base.clients i.history.items (Begun c.args.actor) (λ qs. refl) c.self.invariant.numbers_of_clients; sends = sends_other i.base i.names i.token i.actors.list i.history.items i.edits_made i.settings i.tallies (Begun c.args.actor) c.self.invariant.image c.self.invariant.sends refl; counts = counts_one i.changes c.make_room.new.self w.raise.new.self i.history.items (Begun c.args.actor) c.args.actor.0 (λ a. refl) c.make_room.ensures.same w.raise.ensures c.self.invariant.counts; totals = items_other i.counts i.earlier i.history.items (Begun c.args.actor) refl refl c.self.invariant.totals; compiled = c.self.invariant.compiled; before = c.self.invariant.before; failures = failures_other i.base i.names i.token i.actors.list i.history.items i.edits_made i.settings i.earlier.steps i.failures (Begun c.args.actor) c.self.invariant.image c.self.invariant.failures refl })
          )
      | else-begins w ↦ (
          let out : IsOut i.base i.names i.token (change_at view_checked_out c.args.actor.0 i.actors.list) (i.history.items ++ begun_items false c.args.actor) i.edits_made i.settings c.args.actor (view_checked_out k.0).body = outs i.base i.names i.token i.actors.list i.history.items i.edits_made i.settings beside c.args.actor k.0 false c.self.invariant.image allowed k.1 (sym phase ∙ w.if-begins.false) in
          rw (w.self-inside-is, put) (record { image = subst (λ (x : List Item). IsImage i.base i.names i.token (change_at view_checked_out c.args.actor.0 i.actors.list) x i.edits_made i.settings) (append-nil i.history.items) out.image; numbers_of_clients = c.self.invariant.numbers_of_clients; sends = c.self.invariant.sends; counts = counts_same i.changes c.make_room.new.self i.history.items c.make_room.ensures.same c.self.invariant.counts; totals = c.self.invariant.totals; compiled = c.self.invariant.compiled; before = c.self.invariant.before; failures = c.self.invariant.failures })
          )
    ]

pub returns-clause-ok : goal.returns-clause-ok
returns-clause-ok g c =
    let i = c.self.inside in
    let beside : Standing = standing_of i.earlier i.next_from i.actors.out i.tallies in
    let allowed : first_of (checkout_rules (seen i.base i.names i.history.items i.settings beside) (slice_get (world_of (constants_of i.names i.settings.capacity) i.base i.history.items).actors c.args.actor.0)) ≡ None = subst (λ (v : ImageView). first_of (checkout_rules v (slice_get (world v).actors c.args.actor.0)) ≡ None) (sym c.self.view_is) c.requires.allowed in
    let k = hands i.base i.names i.token i.actors.list i.history.items i.edits_made i.settings beside c.args.actor c.self.invariant.image allowed in
    let moved : c.if-begins.self-inside.actors ≡ c.body_to_check_out.new.self = elim c.if-begins.branch [ then-begins+in_ok-reserve w ↦ ap (λ (x : Inside _). x.actors) w.self-inside-is | else-begins w ↦ ap (λ (x : Inside _). x.actors) w.self-inside-is ] in
    let same : c.if-begins.self-inside.actors ≡ i.actors = moved ∙ c.body_to_check_out.ensures.same in
    let put : c.check_out-next.new.self ≡ (let v : ActorsView = record { list = change_at view_checked_out c.args.actor.0 i.actors.list; out = change_at one_more c.args.actor.0 i.actors.out } in v) = c.check_out-next.ensures.checked ∙ ap (λ (x : ActorsView). let v : ActorsView = record { list = change_at view_checked_out c.args.actor.0 x.list; out = change_at one_more c.args.actor.0 x.out } in v) same in
    let phase : c.args.begins ≡ is_idle k.0.body.phase = c.requires.begins ∙ ap (λ (v : ImageView). idle_at (slice_get (world v).actors c.args.actor.0)) (sym c.self.view_is) ∙ idle_there i.token i.actors.list (world_of (constants_of i.names i.settings.capacity) i.base i.history.items) c.args.actor k.0 c.self.invariant.image.shows k.1 in
    let claim : c.in_ok-claim.claim ≡ new_claim i.token c.args.actor (view_checked_out k.0).body c.stamp_after-stamp.result = c.in_ok-claim.ensures ∙ ap (λ (es : List Edit). new_claim es c.args.actor c.in_ok-body.body c.stamp_after-stamp.result) c.in_ok-again.ensures ∙ ap (λ (b : Body). new_claim i.token c.args.actor b c.stamp_after-stamp.result) (c.in_ok-body.ensures.body k.0 k.1) in
    let within : c.args.actor.0 < length i.actors.out = subst (λ (v : ActorsView). c.args.actor.0 < length v.out) same c.check_out-next.ensures.counted in
    elim c.if-begins.branch [
      | then-begins+in_ok-reserve w ↦ (
          let out : IsOut i.base i.names i.token (change_at view_checked_out c.args.actor.0 i.actors.list) (i.history.items ++ begun_items true c.args.actor) i.edits_made i.settings c.args.actor (view_checked_out k.0).body = outs i.base i.names i.token i.actors.list i.history.items i.edits_made i.settings beside c.args.actor k.0 true c.self.invariant.image allowed k.1 (sym phase ∙ w.if-begins.true) in
          let items : w.push.new.self.items ≡ i.history.items ++ Begun c.args.actor ∷ [] = grind (arith, common_steps) in
          rw (← c.self.view_is, w.self-inside-is, items, put, c.check_out-next.ensures.next) (checked i.base i.names i.token i.actors.list i.history.items i.edits_made i.settings i.earlier i.next_from i.actors.out i.tallies c.args.actor k.0 true c.in_ok-claim.claim c.stamp_after-stamp.result c.self.invariant.image k.1 within (sym phase ∙ w.if-begins.true) out claim (stamp_is (change_count i.earlier.changes c.args.actor.0) i.history.items c.args.actor true c.stamp_after-stamp.result (c.stamp_after-stamp.ensures ∙ ap (λ (t : Bool). changed_at c.args.self.now c.args.actor.0 + cond t 1 0) w.if-begins.true ∙ ap (λ (v : ImageView). changed_at v c.args.actor.0 + cond true 1 0) (sym c.self.view_is))))
          )
      | else-begins w ↦ (
          let out : IsOut i.base i.names i.token (change_at view_checked_out c.args.actor.0 i.actors.list) (i.history.items ++ begun_items false c.args.actor) i.edits_made i.settings c.args.actor (view_checked_out k.0).body = outs i.base i.names i.token i.actors.list i.history.items i.edits_made i.settings beside c.args.actor k.0 false c.self.invariant.image allowed k.1 (sym phase ∙ w.if-begins.false) in
          rw (← c.self.view_is, w.self-inside-is, put, c.check_out-next.ensures.next) (subst (λ (x : List Item). HasCheckedOut (seen i.base i.names i.history.items i.settings beside) c.args.actor c.in_ok-claim.claim (seen i.base i.names x i.settings (standing_of i.earlier (c.args.actor.0 + 1) (change_at one_more c.args.actor.0 i.actors.out) i.tallies))) (append-nil i.history.items) (checked i.base i.names i.token i.actors.list i.history.items i.edits_made i.settings i.earlier i.next_from i.actors.out i.tallies c.args.actor k.0 false c.in_ok-claim.claim c.stamp_after-stamp.result c.self.invariant.image k.1 within (sym phase ∙ w.if-begins.false) out claim (stamp_is (change_count i.earlier.changes c.args.actor.0) i.history.items c.args.actor false c.stamp_after-stamp.result (c.stamp_after-stamp.ensures ∙ ap (λ (t : Bool). changed_at c.args.self.now c.args.actor.0 + cond t 1 0) w.if-begins.false ∙ ap (λ (v : ImageView). changed_at v c.args.actor.0 + cond false 1 0) (sym c.self.view_is)))))
          )
    ]

pub body_to_check_out-requires : goal.body_to_check_out-requires
body_to_check_out-requires g c =
    let i = c.self.inside in
    let beside : Standing = standing_of i.earlier i.next_from i.actors.out i.tallies in
    let allowed : first_of (checkout_rules (seen i.base i.names i.history.items i.settings beside) (slice_get (world_of (constants_of i.names i.settings.capacity) i.base i.history.items).actors c.args.actor.0)) ≡ None = subst (λ (v : ImageView). first_of (checkout_rules v (slice_get (world v).actors c.args.actor.0)) ≡ None) (sym c.self.view_is) c.requires.allowed in
    let k = hands i.base i.names i.token i.actors.list i.history.items i.edits_made i.settings beside c.args.actor c.self.invariant.image allowed in
    slice_get_within i.actors.list c.args.actor.0 k.0 k.1

pub invariant_of-self : goal.invariant_of-self
invariant_of-self g c = rw c.body_to_check_out.ensures.same c.self.invariant

pub invariant_of-self-in_err-make_room : goal.invariant_of-self-in_err-make_room
invariant_of-self-in_err-make_room g c =
    let i = c.self.inside in
    let v = c.self.invariant in
    rw c.body_to_check_out.ensures.same (record { image = v.image; numbers_of_clients = v.numbers_of_clients; sends = v.sends; counts = counts_same i.changes c.make_room.new.self i.history.items c.make_room.ensures.same v.counts; totals = v.totals; compiled = v.compiled; before = v.before; failures = v.failures })

pub invariant_of-self-in_err-again : goal.invariant_of-self-in_err-again
invariant_of-self-in_err-again g c =
    let i = c.self.inside in
    let v = c.self.invariant in
    rw c.body_to_check_out.ensures.same (record { image = v.image; numbers_of_clients = v.numbers_of_clients; sends = v.sends; counts = counts_same i.changes c.make_room.new.self i.history.items c.make_room.ensures.same v.counts; totals = v.totals; compiled = v.compiled; before = v.before; failures = v.failures })

pub invariant_of-self-in_err-claim : goal.invariant_of-self-in_err-claim
invariant_of-self-in_err-claim g c =
    let i = c.self.inside in
    let v = c.self.invariant in
    rw c.body_to_check_out.ensures.same (record { image = v.image; numbers_of_clients = v.numbers_of_clients; sends = v.sends; counts = counts_same i.changes c.make_room.new.self i.history.items c.make_room.ensures.same v.counts; totals = v.totals; compiled = v.compiled; before = v.before; failures = v.failures })

pub invariant_of-self-in_err-reserve : goal.invariant_of-self-in_err-reserve
invariant_of-self-in_err-reserve g c =
    let i = c.self.inside in
    let v = c.self.invariant in
    rw (c.body_to_check_out.ensures.same, c.reserve.ensures.items) (record { image = v.image; numbers_of_clients = v.numbers_of_clients; sends = v.sends; counts = counts_same i.changes c.make_room.new.self i.history.items c.make_room.ensures.same v.counts; totals = v.totals; compiled = v.compiled; before = v.before; failures = v.failures })

pub returns-in_err-body-clause-err : goal.returns-in_err-body-clause-err
returns-in_err-body-clause-err g c = on_err c.from_residual.result _ (rw c.body_to_check_out.ensures.same c.self.view_is)

pub returns-in_err-make_room-clause-err : goal.returns-in_err-make_room-clause-err
returns-in_err-make_room-clause-err g c = on_err c.from_residual-in_err-make_room.result _ (rw c.body_to_check_out.ensures.same c.self.view_is)

pub returns-in_err-again-clause-err : goal.returns-in_err-again-clause-err
returns-in_err-again-clause-err g c = on_err c.from_residual-in_err-again.result _ (rw c.body_to_check_out.ensures.same c.self.view_is)

pub returns-in_err-claim-clause-err : goal.returns-in_err-claim-clause-err
returns-in_err-claim-clause-err g c = on_err c.from_residual-in_err-claim.result _ (rw c.body_to_check_out.ensures.same c.self.view_is)

pub returns-in_err-reserve-clause-err : goal.returns-in_err-reserve-clause-err
returns-in_err-reserve-clause-err g c = on_err c.from_residual-in_err-reserve.result _ (rw (c.body_to_check_out.ensures.same, c.reserve.ensures.items) c.self.view_is)

pub raise-requires-clause-room : goal.raise-requires-clause-room
raise-requires-clause-room g c = c.in_ok-make_room.ensures.room
