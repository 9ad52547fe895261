use Rattle.std.proofs.Common.{length, ◌≡◌, ◌==◌, ◌+◌, ◌-◌, cond, ℕ, ◌<◌, ◌≤◌, refl, sym, ap, subst, slice_get, ◌∙◌, ◌++◌, [], ◌∷◌, false, Some, List, Option, arith}
use Rattle.std.proofs.lemmas.Grind.{common_steps}
use Rattle.std.proofs.lemmas.Option.{slice_get_within}
use Rattle.st_classes.specs.declared.values.ActorId.{ActorId}
use Rattle.st_classes.specs.declared.keys.SiteId.{SiteId}
use Rattle.st_turn.specs.declared.claim.ClaimParts.{ClaimParts}
use Rattle.st_turn.specs.declared.claim.Sent.{Sent}
use Rattle.st_turn.specs.Claims.{ClaimView}
use Rattle.st_turn.proofs.FewSends.{few_sends}
use Rattle.st_turn.specs.Idle.{is_idle}
use Rattle.st_image.specs.Worlds.{Constants, World, change, change_at}
use Rattle.st_image.specs.Replay.{with_body}
use Rattle.st_image.specs.Counts.{most_counted, ran_of, weigh}
use Rattle.st_image.specs.declared.counts.Counts.{Counts}
use Rattle.st_image.specs.Images.{ImageView, Standing, counts_of, world_of}
use Rattle.st_image.specs.Failures.{KeptFailures, failure_in, failures_kept, failures_through, kept_after}
use Rattle.st_image.specs.Failed.{ended_by_fault}
use Rattle.st_image.specs.WorldInvariant.{first_turn}
use Rattle.st_image.specs.ActorViews.{ActorView, actor_view, view_after_steps}
use Rattle.st_image.specs.ActResults.{TakesOuter, constants_of}
use Rattle.st_image.specs.Changes.{change_count}
use Rattle.st_image.specs.ClaimsOut.{one_less}
use Rattle.st_image.specs.Commits.{CommitAllowed, HasCommitted, act_site}
use Rattle.st_turn.specs.Tallies.{after_sends, sends_of}
use Rattle.st_image.specs.Tallies.{HasPlaces, SameTallies, Tallied, after_act_at, tally_at}
use Rattle.st_turn.specs.declared.tally.Tally.{Tally}
use Rattle.st_image.specs.declared.history.Item.{Item}
use Rattle.st_image.specs.declared.history.Item.TheVariants.{Ran}
use Rattle.st_image.proofs.Posting.{seen, standing_of}
use Rattle.st_image.proofs.Showing.{kept_at}
use Rattle.st_image.proofs.Acts.{kept_is, out_same, some_kept}
use Rattle.st_image.proofs.Committing.{HasTaken, MayCommit, has_taken, items_are, may_commit, stands_after, steps_room}
use Rattle.st_image.proofs.CountingOut.{counts_same_out}
use Rattle.st_image.proofs.ClientNumbers.{kept_other}
use Rattle.st_image.proofs.CountingChanges.{counts_one, few_changes}
use Rattle.st_image.proofs.MakingRoom.{few_accepted_by, with_room}
use Rattle.st_image.proofs.Counting.{few_more}
use Rattle.st_image.proofs.CountingItems.{items_ran}
use Rattle.st_image.proofs.Failing.{few_failures, kept_push}
use Rattle.st_image.proofs.FailingCommits.{AreOf, failed_taken, kept_of_parts, leads_before, parts_fit, parts_lead_somewhere}
use Rattle.st_image.proofs.image.Image.take_steps.Goals as goal

pub put_steps-requires-clause-busy : goal.put_steps-requires-clause-busy
put_steps-requires-clause-busy g c = λ k e.
    let i = c.self.inside in
    let d : ClaimView = c.args.claim in
    let beside : Standing = standing_of i.earlier i.next_from i.actors.out i.tallies in
    let allowed : CommitAllowed (seen i.base i.names i.history.items i.settings beside) d = subst (λ (v : ImageView). CommitAllowed v d) (sym c.self.view_is) c.requires.allowed in
    let may : MayCommit i.base i.names i.token i.actors.list i.history.items i.settings d = may_commit i.base i.names i.token i.actors.list i.history.items i.edits_made i.settings beside d c.self.invariant.image allowed c.known.ensures (subst (λ (n : ℕ). 0 < n) c.requires.steps c.requires.some) in
    let at : slice_get i.actors.list d.actor.0 ≡ Some k = subst (λ (b : ActorId). slice_get i.actors.list b.0 ≡ Some k) c.actor-actor.ensures e in
    let same : actor_view may.went.being ≡ k = some_kept (actor_view may.went.being) k (sym (kept_at i.token i.actors.list (world_of (constants_of i.names i.settings.capacity) i.base i.history.items) d.actor.0 may.went.being c.self.invariant.image.shows may.went.at) ∙ at) in
    subst (λ (x : ActorView). is_idle x.body.phase ≡ false) same may.went.busy

pub put_steps-requires-clause-shown : goal.put_steps-requires-clause-shown
put_steps-requires-clause-shown g c =
    let i = c.self.inside in
    let d : ClaimView = c.args.claim in
    let beside : Standing = standing_of i.earlier i.next_from i.actors.out i.tallies in
    let allowed : CommitAllowed (seen i.base i.names i.history.items i.settings beside) d = subst (λ (v : ImageView). CommitAllowed v d) (sym c.self.view_is) c.requires.allowed in
    let may : MayCommit i.base i.names i.token i.actors.list i.history.items i.settings d = may_commit i.base i.names i.token i.actors.list i.history.items i.edits_made i.settings beside d c.self.invariant.image allowed c.known.ensures (subst (λ (n : ℕ). 0 < n) c.requires.steps c.requires.some) in
    (change (with_body d.after) d.actor (world_of (constants_of i.names i.settings.capacity) i.base i.history.items), rw (c.shown-version.ensures, c.actor-actor.ensures, c.in-Ok-into_parts.ensures.after) may.went.shown)

pub put_steps-requires-clause-act : goal.put_steps-requires-clause-act
put_steps-requires-clause-act g c =
    let i = c.self.inside in
    let d : ClaimView = c.args.claim in
    let beside : Standing = standing_of i.earlier i.next_from i.actors.out i.tallies in
    let allowed : CommitAllowed (seen i.base i.names i.history.items i.settings beside) d = subst (λ (v : ImageView). CommitAllowed v d) (sym c.self.view_is) c.requires.allowed in
    let may : MayCommit i.base i.names i.token i.actors.list i.history.items i.settings d = may_commit i.base i.names i.token i.actors.list i.history.items i.edits_made i.settings beside d c.self.invariant.image allowed c.known.ensures (subst (λ (n : ℕ). 0 < n) c.requires.steps c.requires.some) in
    rw (c.shown-version.ensures, c.actor-actor.ensures, c.in-Ok-into_parts.ensures.after) (stands_after i.base i.names i.token i.actors.list i.history.items i.settings d c.args.is_act_next may c.self.invariant.image.shows.edits_are c.requires.act)

pub count-requires-clause-places : goal.count-requires-clause-places
count-requires-clause-places g c =
    let sent : c.deref.result.now.sends.items ≡ c.sends.result.now.items = ap (λ (p : ClaimParts). p.sends.items) c.deref.ensures ∙ ap (λ (p : ClaimParts). p.sends.items) c.deref_mut.ensures.value ∙ c.in-Ok-into_parts.ensures.sends ∙ sym c.sends.ensures in
    subst (λ (ss : List Sent). HasPlaces c.make_room.new.tallies ss c.site_to_commit-site.result) (sym sent) c.in-Ok.ensures.places

pub count-requires-clause-few : goal.count-requires-clause-few
count-requires-clause-few g c = λ id.
    let i = c.self.inside in
    let d : ClaimView = c.args.claim in
    let sent : c.deref.result.now.sends.items ≡ d.sends = ap (λ (p : ClaimParts). p.sends.items) c.deref.ensures ∙ ap (λ (p : ClaimParts). p.sends.items) c.deref_mut.ensures.value ∙ c.in-Ok-into_parts.ensures.sends in
    let few : length d.sends ≤ d.steps = few_sends d.edits d.actor d.steps d.before d.sends c.known.ensures.sites in
    let tally = ap (λ (t : Tally). sends_of t) (c.make_room.ensures.tallies id) in
    let most = few_more (constants_of i.names i.settings.capacity) i.base i.history.items i.tallies d.sends id c.self.invariant.sends (omega (arith, c.self.invariant.image.few_items, c.self.invariant.image.numbers.few_items)) (omega (arith, few, c.known.ensures.few)) in
    omega (arith, most, tally, ap (λ (ss : List Sent). length ss) sent)

pub invariant_of-self-in-Ok-put_steps : goal.invariant_of-self-in-Ok-put_steps
invariant_of-self-in-Ok-put_steps g c =
    let i = c.self.inside in
    let d : ClaimView = c.args.claim in
    let beside : Standing = standing_of i.earlier i.next_from i.actors.out i.tallies in
    let allowed : CommitAllowed (seen i.base i.names i.history.items i.settings beside) d = subst (λ (v : ImageView). CommitAllowed v d) (sym c.self.view_is) c.requires.allowed in
    let may : MayCommit i.base i.names i.token i.actors.list i.history.items i.settings d = may_commit i.base i.names i.token i.actors.list i.history.items i.edits_made i.settings beside d c.self.invariant.image allowed c.known.ensures (subst (λ (n : ℕ). 0 < n) c.requires.steps c.requires.some) in
    let w : World = world_of (constants_of i.names i.settings.capacity) i.base i.history.items in
    let raw = c.in-Ok-put_steps.ensures.ok (change (with_body d.after) d.actor w) (rw (c.shown-version.ensures, c.actor-actor.ensures, c.in-Ok-into_parts.ensures.after) may.went.shown) in
    let takes : TakesOuter (constants_of i.names i.settings.capacity) i.token (change_at (view_after_steps d.after) d.actor.0 i.actors.list) c.put_steps.new.actors.list d.actor (change (with_body d.after) d.actor w) c.in-Ok-put_steps.field-0 = rw (c.shown-version.ensures, c.actor-actor.ensures, c.in-Ok-into_parts.ensures.after) at raw in
    let sent : c.deref.result.now.sends.items ≡ d.sends = ap (λ (p : ClaimParts). p.sends.items) c.deref.ensures ∙ ap (λ (p : ClaimParts). p.sends.items) c.deref_mut.ensures.value ∙ c.in-Ok-into_parts.ensures.sends in
    let tallied : Tallied i.tallies d.sends (act_site d) c.count.new.self = λ id.
    c.count.ensures.tallied id
    ∙ ap (λ (o : Option SiteId). after_act_at id o (after_sends id c.deref.result.now.sends.items (tally_at c.make_room.new.tallies id))) c.site_to_commit-site.ensures
    ∙ ap (λ (ss : List Sent). after_act_at id (act_site d) (after_sends id ss (tally_at c.make_room.new.tallies id))) sent
    ∙ ap (λ (t : Tally). after_act_at id (act_site d) (after_sends id d.sends t)) (c.make_room.ensures.tallies id) in
    let pushed : c.push_reserved.new.self.items ≡ i.history.items ++ Ran c.actor-actor.result c.args.steps ∷ [] = grind (arith, common_steps) in
    let items : c.push_reserved.new.self.items ≡ i.history.items ++ Ran d.actor c.args.steps ∷ [] = pushed ∙ ap (λ (b : ActorId). i.history.items ++ Ran b c.args.steps ∷ []) c.actor-actor.ensures in
    let taken : HasTaken i.base i.names i.token c.put_steps.new.actors.list i.history.items i.edits_made i.settings c.count.new.self d.actor c.args.steps = has_taken i.base i.names i.token i.actors.list c.put_steps.new.actors.list i.history.items i.edits_made i.settings beside i.tallies c.count.new.self d c.args.steps c.in-Ok-put_steps.field-0 c.self.invariant.image c.self.invariant.sends c.known.ensures allowed c.requires.steps c.requires.some may takes c.in-Ok-put_steps.ensures.grown tallied in
    let cs : Constants = constants_of i.names i.settings.capacity in
    let before : ℕ = i.earlier.steps + weigh ran_of i.history.items in
    let lead = leads_before d c.args.steps c.known.ensures c.requires.steps c.requires.some in
    let counted : c.counted.result.steps ≡ before = ap (λ (k : Counts). k.steps) c.counted.ensures.counts ∙ ap (λ (v : ImageView). (counts_of v).steps) (sym c.self.view_is) in
    let ended : c.ended_by_fault-ended.result ≡ ended_by_fault (first_turn (slice_get i.base.actors d.actor.0)) (slice_get c.put_steps.new.actors.list d.actor.0) = c.ended_by_fault-ended.ensures ∙ ap (λ (b : ActorId). ended_by_fault (first_turn (slice_get i.base.actors b.0)) (slice_get c.put_steps.new.actors.list b.0)) c.actor-actor.ensures in
    let parts : AreOf c.deref_mut.result.now d = record { edits = ap (λ (p : ClaimParts). p.token) c.deref_mut.ensures.value ∙ c.in-Ok-into_parts.ensures.edits; actor = ap (λ (p : ClaimParts). p.actor) c.deref_mut.ensures.value ∙ c.in-Ok-into_parts.ensures.actor; before = ap (λ (p : ClaimParts). p.before) c.deref_mut.ensures.value ∙ c.in-Ok-into_parts.ensures.before } in
    let told = kept_of_parts c.deref_mut.result.now d (c.args.steps - 1) (c.counted.result.steps + c.from-taken.result) (before + c.args.steps) i.failures c.keep_if_failed.new.self c.ended_by_fault-ended.result (ended_by_fault (first_turn (slice_get i.base.actors d.actor.0)) (slice_get c.put_steps.new.actors.list d.actor.0)) lead.0 parts c.keep_if_failed.ensures lead.1 (omega (arith, counted, c.from-taken.ensures)) ended in
    let failure = failed_taken i.base i.names i.token i.actors.list c.put_steps.new.actors.list i.history.items i.settings d c.args.steps before c.in-Ok-put_steps.field-0 lead.0 c.self.invariant.image.world.lawful c.self.invariant.image.world.sound c.known.ensures allowed.survives c.requires.steps c.requires.some may takes lead.1 in
    let failed : c.keep_if_failed.new.self ≡ failures_kept (failures_through cs i.base i.earlier.steps i.base (i.history.items ++ Ran d.actor c.args.steps ∷ [])) =
    told
    ∙ ap (kept_after i.failures) (sym failure)
    ∙ ap (λ (k : KeptFailures). kept_after k (failure_in cs i.base before w (Ran d.actor c.args.steps))) c.self.invariant.failures
    ∙ sym (kept_push cs i.base i.earlier.steps i.base w i.history.items (Ran d.actor c.args.steps) c.self.invariant.image.lawful) in
    rw (items, kept_is _ _ c.release.ensures, c.from-taken.ensures) (record { image = taken.image; numbers_of_clients = kept_other i.clients i.base.clients i.history.items (Ran d.actor c.args.steps) (λ qs. refl) c.self.invariant.numbers_of_clients; sends = taken.sends; counts = counts_one i.changes c.make_room.new.changes c.raise.new.self i.history.items (Ran d.actor c.args.steps) d.actor.0 (λ a. refl) c.make_room.ensures.changes (subst (λ (b : ActorId). (a : ℕ) → change_count c.raise.new.self a ≡ change_count c.make_room.new.changes a + cond (a == b.0) 1 0) c.actor-actor.ensures c.raise.ensures) c.self.invariant.counts; totals = items_ran i.counts i.earlier i.history.items d.actor c.args.steps (subst (λ (n : ℕ). i.earlier.steps + weigh ran_of i.history.items + n ≤ most_counted) (sym c.requires.steps) (steps_room (seen i.base i.names i.history.items i.settings beside) d allowed.room)) c.self.invariant.totals; compiled = c.self.invariant.compiled; before = c.self.invariant.before; failures = failed })

pub returns-in-Ok-put_steps-clause-ok : goal.returns-in-Ok-put_steps-clause-ok
returns-in-Ok-put_steps-clause-ok g c =
    let i = c.self.inside in
    let d : ClaimView = c.args.claim in
    let beside : Standing = standing_of i.earlier i.next_from i.actors.out i.tallies in
    let allowed : CommitAllowed (seen i.base i.names i.history.items i.settings beside) d = subst (λ (v : ImageView). CommitAllowed v d) (sym c.self.view_is) c.requires.allowed in
    let may : MayCommit i.base i.names i.token i.actors.list i.history.items i.settings d = may_commit i.base i.names i.token i.actors.list i.history.items i.edits_made i.settings beside d c.self.invariant.image allowed c.known.ensures (subst (λ (n : ℕ). 0 < n) c.requires.steps c.requires.some) in
    let w : World = world_of (constants_of i.names i.settings.capacity) i.base i.history.items in
    let raw = c.in-Ok-put_steps.ensures.ok (change (with_body d.after) d.actor w) (rw (c.shown-version.ensures, c.actor-actor.ensures, c.in-Ok-into_parts.ensures.after) may.went.shown) in
    let takes : TakesOuter (constants_of i.names i.settings.capacity) i.token (change_at (view_after_steps d.after) d.actor.0 i.actors.list) c.put_steps.new.actors.list d.actor (change (with_body d.after) d.actor w) c.in-Ok-put_steps.field-0 = rw (c.shown-version.ensures, c.actor-actor.ensures, c.in-Ok-into_parts.ensures.after) at raw in
    let sent : c.deref.result.now.sends.items ≡ d.sends = ap (λ (p : ClaimParts). p.sends.items) c.deref.ensures ∙ ap (λ (p : ClaimParts). p.sends.items) c.deref_mut.ensures.value ∙ c.in-Ok-into_parts.ensures.sends in
    let tallied : Tallied i.tallies d.sends (act_site d) c.count.new.self = λ id.
    c.count.ensures.tallied id
    ∙ ap (λ (o : Option SiteId). after_act_at id o (after_sends id c.deref.result.now.sends.items (tally_at c.make_room.new.tallies id))) c.site_to_commit-site.ensures
    ∙ ap (λ (ss : List Sent). after_act_at id (act_site d) (after_sends id ss (tally_at c.make_room.new.tallies id))) sent
    ∙ ap (λ (t : Tally). after_act_at id (act_site d) (after_sends id d.sends t)) (c.make_room.ensures.tallies id) in
    let pushed : c.push_reserved.new.self.items ≡ i.history.items ++ Ran c.actor-actor.result c.args.steps ∷ [] = grind (arith, common_steps) in
    let items : c.push_reserved.new.self.items ≡ i.history.items ++ Ran d.actor c.args.steps ∷ [] = pushed ∙ ap (λ (b : ActorId). i.history.items ++ Ran b c.args.steps ∷ []) c.actor-actor.ensures in
    let old : ImageView = seen i.base i.names i.history.items i.settings beside in
    let new : ImageView = seen i.base i.names (i.history.items ++ Ran d.actor c.args.steps ∷ []) i.settings (standing_of i.earlier i.next_from c.release.new.self.out c.count.new.self) in
    let out : c.release.new.self.out ≡ change_at one_less d.actor.0 c.put_steps.new.actors.out = out_same _ _ c.release.ensures ∙ ap (λ (b : ActorId). change_at one_less b.0 c.put_steps.new.actors.out) c.actor-actor.ensures in
    let committed : HasCommitted old d c.args.steps new = record {
      allowed = allowed;
      steps = c.requires.steps;
      image = ap (λ (is : List Item). let x : ImageView = record new { history = i.history.items ++ is } in x) (sym (items_are d c.args.steps c.args.steps c.requires.steps refl c.requires.some));
      next_from = refl;
      earlier = refl;
      counted = counts_same_out one_less d.actor old new i.actors.out c.put_steps.new.actors.out c.release.new.self.out refl refl c.in-Ok-put_steps.ensures.out out refl;
      tallied = tallied;
    } in
    rw (← c.self.view_is, items) committed

pub invariant_of-self : goal.invariant_of-self
invariant_of-self g c =
    let i = c.self.inside in
    rw c.make_room.ensures.items (with_room i.base i.names i.token i.actors.list i.history.items i.edits_made i.settings i.clients i.tallies c.make_room.new.tallies i.changes c.make_room.new.changes i.counts i.earlier i.failures c.self.invariant c.make_room.ensures.changes c.make_room.ensures.tallies)

pub invariant_of-self-in-Err : goal.invariant_of-self-in-Err
invariant_of-self-in-Err g c =
    let i = c.self.inside in
    rw c.make_room.ensures.items (with_room i.base i.names i.token i.actors.list i.history.items i.edits_made i.settings i.clients i.tallies c.make_room.new.tallies i.changes c.make_room.new.changes i.counts i.earlier i.failures c.self.invariant c.make_room.ensures.changes c.make_room.ensures.tallies)

pub invariant_of-self-in-Err-put_steps : goal.invariant_of-self-in-Err-put_steps
invariant_of-self-in-Err-put_steps g c =
    let i = c.self.inside in
    rw (c.make_room.ensures.items, c.in-Err-put_steps.ensures.err) (with_room i.base i.names i.token i.actors.list i.history.items i.edits_made i.settings i.clients i.tallies c.make_room.new.tallies i.changes c.make_room.new.changes i.counts i.earlier i.failures c.self.invariant c.make_room.ensures.changes c.make_room.ensures.tallies)

pub returns-in_default-clause-err : goal.returns-in_default-clause-err
returns-in_default-clause-err g c = record {
  image = rw (c.make_room.ensures.items, ← c.self.view_is) refl;
  tallies = subst (λ (v : ImageView). SameTallies v.standing.tallies c.make_room.new.tallies) c.self.view_is c.make_room.ensures.tallies;
}

pub returns-in-Err-clause-err : goal.returns-in-Err-clause-err
returns-in-Err-clause-err g c = record {
  image = rw (c.make_room.ensures.items, ← c.self.view_is) refl;
  tallies = subst (λ (v : ImageView). SameTallies v.standing.tallies c.make_room.new.tallies) c.self.view_is c.make_room.ensures.tallies;
}

pub returns-in-Err-put_steps-clause-err : goal.returns-in-Err-put_steps-clause-err
returns-in-Err-put_steps-clause-err g c = record {
  image = rw (c.make_room.ensures.items, c.in-Err-put_steps.ensures.err, ← c.self.view_is) refl;
  tallies = subst (λ (v : ImageView). SameTallies v.standing.tallies c.make_room.new.tallies) c.self.view_is c.make_room.ensures.tallies;
}

pub put_steps-requires-clause-there : goal.put_steps-requires-clause-there
put_steps-requires-clause-there g c =
    let i = c.self.inside in
    let d : ClaimView = c.args.claim in
    let beside : Standing = standing_of i.earlier i.next_from i.actors.out i.tallies in
    let allowed : CommitAllowed (seen i.base i.names i.history.items i.settings beside) d = subst (λ (v : ImageView). CommitAllowed v d) (sym c.self.view_is) c.requires.allowed in
    let may : MayCommit i.base i.names i.token i.actors.list i.history.items i.settings d = may_commit i.base i.names i.token i.actors.list i.history.items i.edits_made i.settings beside d c.self.invariant.image allowed c.known.ensures (subst (λ (n : ℕ). 0 < n) c.requires.steps c.requires.some) in
    let at : slice_get i.actors.list d.actor.0 ≡ Some (actor_view may.went.being) = kept_at i.token i.actors.list (world_of (constants_of i.names i.settings.capacity) i.base i.history.items) d.actor.0 may.went.being c.self.invariant.image.shows may.went.at in
    subst (λ (b : ActorId). b.0 < length i.actors.list) (sym c.actor-actor.ensures) (slice_get_within i.actors.list d.actor.0 (actor_view may.went.being) at)

pub put_steps-requires-clause-few : goal.put_steps-requires-clause-few
put_steps-requires-clause-few g c =
    let i = c.self.inside in
    few_accepted_by i.actors.list (length i.history.items) (omega (arith, c.self.invariant.image.few_items, c.self.invariant.image.numbers.few_items)) c.self.invariant.image.few_accepted

pub keep_if_failed-requires-clause-few : goal.keep_if_failed-requires-clause-few
keep_if_failed-requires-clause-few g c =
    let i = c.self.inside in
    omega (arith, ap (λ (k : KeptFailures). k.count) c.self.invariant.failures, few_failures (constants_of i.names i.settings.capacity) i.base i.earlier.steps i.base i.history.items, c.self.invariant.image.few_items, c.self.invariant.image.numbers.few_items)

pub keep_if_failed-requires-clause-fits : goal.keep_if_failed-requires-clause-fits
keep_if_failed-requires-clause-fits g c =
    let d : ClaimView = c.args.claim in
    let parts : AreOf c.deref_mut.result.now d = record { edits = ap (λ (p : ClaimParts). p.token) c.deref_mut.ensures.value ∙ c.in-Ok-into_parts.ensures.edits; actor = ap (λ (p : ClaimParts). p.actor) c.deref_mut.ensures.value ∙ c.in-Ok-into_parts.ensures.actor; before = ap (λ (p : ClaimParts). p.before) c.deref_mut.ensures.value ∙ c.in-Ok-into_parts.ensures.before } in
    parts_fit c.deref_mut.result.now d parts c.known.ensures.begins

pub keep_if_failed-requires-clause-leads : goal.keep_if_failed-requires-clause-leads
keep_if_failed-requires-clause-leads g c =
    let d : ClaimView = c.args.claim in
    let parts : AreOf c.deref_mut.result.now d = record { edits = ap (λ (p : ClaimParts). p.token) c.deref_mut.ensures.value ∙ c.in-Ok-into_parts.ensures.edits; actor = ap (λ (p : ClaimParts). p.actor) c.deref_mut.ensures.value ∙ c.in-Ok-into_parts.ensures.actor; before = ap (λ (p : ClaimParts). p.before) c.deref_mut.ensures.value ∙ c.in-Ok-into_parts.ensures.before } in
    parts_lead_somewhere c.deref_mut.result.now d (c.args.steps - 1) parts (leads_before d c.args.steps c.known.ensures c.requires.steps c.requires.some)

pub raise-requires-clause-room : goal.raise-requires-clause-room
raise-requires-clause-room g c = c.in-Ok.ensures.place

pub raise-requires-clause-few : goal.raise-requires-clause-few
raise-requires-clause-few g c =
    let i = c.self.inside in
    let a : ℕ = c.actor-actor.result.0 in
    omega (arith, c.make_room.ensures.changes a, c.self.invariant.counts a, few_changes i.history.items a, c.self.invariant.image.few_items, c.self.invariant.image.numbers.few_items)

pub push_reserved-requires : goal.push_reserved-requires
push_reserved-requires g c = c.in-Ok.ensures.room
