use Rattle.std.proofs.Common.{List, length, is_some, Option, refl, true, ◌≤◌, subst, Some, ◌≡◌, ◌+◌, ◌<◌, ◌-◌, ◌^◌, ℕ, None, sym, ap, ◌∙◌, arith, slice_get}
use Rattle.std.proofs.lemmas.Grind.{common_steps}
use Rattle.st_classes.specs.Refusals.{first_of}
use Rattle.st_image.specs.PostRules.{last_at, post_rules}
use Rattle.st_image.specs.ClaimsOut.{claims_of}
use Rattle.st_image.specs.Worlds.{change_at}
use Rattle.st_classes.specs.declared.values.Value.{Value}
use Rattle.st_classes.specs.declared.refusals.Refusal.{Refusal}
use Rattle.st_image.specs.ActorViews.{ActorView, view_with_message}
use Rattle.st_image.proofs.Showing.{being_at_kept}
use Rattle.st_image.proofs.Acts.{kept_is, message_of, none_by, out_same, post_grows, post_tries, when_none}
use Rattle.st_image.proofs.Places.{at_all}
use Rattle.st_image.proofs.Changing.{length-change}
use Rattle.st_image.proofs.RefusedPosts.{grows_not, post_at_end, post_refused, there_is_one}
use Rattle.st_image.proofs.acting.try_post.Goals as goal

pub returns-clause-ok : goal.returns-clause-ok
returns-clause-ok g c = λ capacity w i.
    let n : ℕ = c.last-last.result + 1 in
    let args : c.from_vec.result ≡ c.args.args.now = c.from_vec.ensures ∙ c.in_ok-to_vec.ensures.items_if_clones_equal (λ x y e. e) in
    let low : c.in-Some.found.now.last < 2 ^ 64 - 1 = grind (arith, common_steps) in
    let b = being_at_kept c.args.version.now c.args.actors.now.list w c.args.actor.0 c.in-Some.found.now i.shows (sym c.in-Some.ensures) in
    let last : last_at (slice_get w.actors c.args.actor.0) ≡ Some c.last-last.result = ap last_at b.1 ∙ ap (λ (k : ActorView). Some k.last) b.2 ∙ ap Some (sym c.last-last.ensures) in
    let allowed : first_of (post_rules c.args.names.now w (slice_get w.actors c.args.to.0) (message_of c.args.actor n c.args.selector c.args.args.now)) ≡ None = rw (← args) (sym (c.post_refusal.ensures.value w i.shows last) ∙ none_by c.post_refusal.result (sym c.if-is_some.ensures)) in
    let middle : c.deliver.new.self.list ≡ change_at (view_with_message (message_of c.args.actor n c.args.selector c.args.args.now)) c.args.to.0 c.args.actors.now.list = rw (← args) (kept_is _ _ c.deliver.ensures.message) in
    post_tries c.args.names.now capacity c.args.version.now c.args.actors.now.list c.deliver.new.self.list c.set_last.new.self.list w c.args.actor c.args.to c.args.selector c.args.args.now c.in-Some.found.now n i (sym c.in-Some.ensures) low (ap (λ (x : ℕ). x + 1) c.last-last.ensures) allowed middle (kept_is _ _ c.set_last.ensures)

pub returns-clause-grown : goal.returns-clause-grown
returns-clause-grown g c = post_grows c.args.actors.now.list c.deliver.new.self.list c.set_last.new.self.list (message_of c.args.actor (c.last-last.result + 1) c.args.selector c.from_vec.result) c.args.to.0 c.args.actor.0 (c.last-last.result + 1) (kept_is _ _ c.deliver.ensures.message) (kept_is _ _ c.set_last.ensures)

pub deliver-requires-clause-there : goal.deliver-requires-clause-there
deliver-requires-clause-there g c = when_none c.post_refusal.result _ (none_by c.post_refusal.result (sym c.if-is_some.ensures)) c.post_refusal.ensures.there

pub deliver-requires-clause-few : goal.deliver-requires-clause-few
deliver-requires-clause-few g c = λ k at. at_all (λ (x : ActorView). x.accepted < 2 ^ 63) c.args.actors.now.list c.args.to.0 k c.requires.few at

pub deliver-requires-clause-accepts : goal.deliver-requires-clause-accepts
deliver-requires-clause-accepts g c = when_none c.post_refusal.result _ (none_by c.post_refusal.result (sym c.if-is_some.ensures)) c.post_refusal.ensures.accepts

pub returns-clause-out : goal.returns-clause-out
returns-clause-out g c = λ b. ap (λ (ns : List ℕ). claims_of ns b) (out_same _ _ c.set_last.ensures ∙ out_same _ _ c.deliver.ensures.message)

pub set_last-requires : goal.set_last-requires
set_last-requires g c =
    let ks : List ActorView = c.args.actors.now.list in
    subst (λ (xs : List ActorView). c.args.actor.0 < length xs) (sym (kept_is _ _ c.deliver.ensures.message)) (subst (λ (n : ℕ). c.args.actor.0 < n) (sym (length-change _ c.args.to.0 ks)) c.requires.there)

pub returns-in-None-clause-ok : goal.returns-in-None-clause-ok
returns-in-None-clause-ok g c = λ capacity w i. absurd (there_is_one c.args.actors.now.list c.args.actor.0 c.requires.there (sym c.in-None.ensures))

pub returns-then-last-clause-ok : goal.returns-then-last-clause-ok
returns-then-last-clause-ok g c = λ capacity w i.
    let full : 2 ^ 64 - 1 ≤ c.in-Some.found.now.last = omega arith in
    post_at_end c.args.names.now capacity c.args.version.now c.args.actors.now.list w c.args.actor c.args.to c.args.selector c.args.args.now c.in-Some.found.now i (sym c.in-Some.ensures) full

pub returns-then-is_some-clause-ok : goal.returns-then-is_some-clause-ok
returns-then-is_some-clause-ok g c = λ capacity w i.
    let n : ℕ = c.last-last.result + 1 in
    let args : c.from_vec.result ≡ c.args.args.now = c.from_vec.ensures ∙ c.in_ok-to_vec.ensures.items_if_clones_equal (λ x y e. e) in
    let b = being_at_kept c.args.version.now c.args.actors.now.list w c.args.actor.0 c.in-Some.found.now i.shows (sym c.in-Some.ensures) in
    let last : last_at (slice_get w.actors c.args.actor.0) ≡ Some c.last-last.result = ap last_at b.1 ∙ ap (λ (k : ActorView). Some k.last) b.2 ∙ ap Some (sym c.last-last.ensures) in
    let rules : c.post_refusal.result ≡ first_of (post_rules c.args.names.now w (slice_get w.actors c.args.to.0) (message_of c.args.actor n c.args.selector c.from_vec.result)) = c.post_refusal.ensures.value w i.shows last in
    let some : is_some c.post_refusal.result ≡ true = sym c.is_some.ensures ∙ c.if-is_some.true in
    let refused = subst (λ (o : Option Refusal). is_some o ≡ true) rules some in
    post_refused c.args.names.now capacity c.args.version.now c.args.actors.now.list w c.args.actor c.args.to c.args.selector c.args.args.now c.in-Some.found.now n i (sym c.in-Some.ensures) (ap (λ (x : ℕ). x + 1) c.last-last.ensures)
    (subst (λ (xs : List Value). is_some (first_of (post_rules c.args.names.now w (slice_get w.actors c.args.to.0) (message_of c.args.actor n c.args.selector xs))) ≡ true) args refused)

pub returns-then-last-clause-grown : goal.returns-then-last-clause-grown
returns-then-last-clause-grown g c = grows_not c.args.actors.now.list

pub returns-then-is_some-clause-grown : goal.returns-then-is_some-clause-grown
returns-then-is_some-clause-grown g c = grows_not c.args.actors.now.list

pub returns-in-None-clause-grown : goal.returns-in-None-clause-grown
returns-in-None-clause-grown g c = grows_not c.args.actors.now.list

pub returns-then-last-clause-out : goal.returns-then-last-clause-out
returns-then-last-clause-out g c = λ b. refl

pub returns-then-is_some-clause-out : goal.returns-then-is_some-clause-out
returns-then-is_some-clause-out g c = λ b. refl

pub returns-in-None-clause-out : goal.returns-in-None-clause-out
returns-in-None-clause-out g c = λ b. refl

pub overflow_add-message : goal.overflow_add-message
overflow_add-message g c = omega arith
