use Rattle.std.proofs.Common.{Result, Some, ◌≡◌, ◌<◌, ◌^◌, length, slice_get, Ok, Err, true, false, refl, sym, ap, ◌∙◌, subst, is_some}
use Rattle.std.proofs.lemmas.Option.{slice_get_within}
use Rattle.st_image.specs.Worlds.{World}
use Rattle.st_image.specs.Replay.{act_result}
use Rattle.st_image.specs.ActResults.{Does, IsShown, StandsBefore, constants_of}
use Rattle.st_image.proofs.Running.{fits_some}
use Rattle.st_image.specs.ActorViews.{ActorView, ActorsView}
use Rattle.std.specs.Prelude.{IsErr}
use Rattle.st_classes.specs.declared.faults.Fault.{Fault}
use Rattle.st_classes.specs.declared.values.Value.{Value}
use Rattle.st_image.proofs.Places.{at_all}
use Rattle.st_image.proofs.Acts.{kept_is, then_out}
use Rattle.st_image.proofs.Outer.{Performed, kept_there, next_names, on_err, performed, performed_busy, performed_fits, performed_given, performed_grows, performed_next, shown_runs, stands_by}
use Rattle.st_image.proofs.acting.take_outer.Goals as goal

pub next_act-requires-clause-fits : goal.next_act-requires-clause-fits
next_act-requires-clause-fits g c = λ k at. fits_some c.args.version.now c.args.actor k.body (shown_runs c.args.names.now c.args.capacity c.args.version.now c.args.actors.now.list c.requires.shown.0 c.args.actor k c.requires.shown.1 at)

pub returns-then-not-is_act_next-clause-ok : goal.returns-then-not-is_act_next-clause-ok
returns-then-not-is_act_next-clause-ok g c = λ w i.
    (subst (StandsBefore c.args.actor w) c.if-not-is_act_next.true (c.requires.act w i), refl)

pub returns-in_err-act-clause-stands : goal.returns-in_err-act-clause-stands
returns-in_err-act-clause-stands g c = on_err c.from_residual.result ((w : World) → IsShown c.args.names.now c.args.capacity c.args.version.now c.args.actors.now.list w → StandsBefore c.args.actor w true) (λ w i.
    subst (StandsBefore c.args.actor w) c.if-not-is_act_next.false (c.requires.act w i))

pub returns-in_default-clause-ok : goal.returns-in_default-clause-ok
returns-in_default-clause-ok g c = λ w i.
    let k = kept_there c.args.actors.now.list c.args.actor.0 c.requires.there in
    (stands_by c.args.version.now c.args.actors.now.list w c.args.actor k.0 false i.shows k.1 (ap is_some (sym (c.in_ok-act.ensures k.0 k.1) ∙ c.in_default.is)), refl)

pub perform-requires-clause-class : goal.perform-requires-clause-class
perform-requires-clause-class g c =
    let k = kept_there c.args.actors.now.list c.args.actor.0 c.requires.there in
    next_names c.args.names.now c.args.capacity c.args.version.now c.args.actors.now.list c.requires.shown.0 c.args.actor k.0 c.in-Some.act c.requires.shown.1 k.1 (sym (c.in_ok-act.ensures k.0 k.1) ∙ c.in-Some.is)

pub returns-in_err-value-clause-stands : goal.returns-in_err-value-clause-stands
returns-in_err-value-clause-stands g c = on_err c.from_residual-in_err-value.result ((w : World) → IsShown c.args.names.now c.args.capacity c.args.version.now c.args.actors.now.list w → StandsBefore c.args.actor w true) (λ w i.
    subst (StandsBefore c.args.actor w) c.if-not-is_act_next.false (c.requires.act w i))

pub returns-in_err-fail-in-Err-clause-stands : goal.returns-in_err-fail-in-Err-clause-stands
returns-in_err-fail-in-Err-clause-stands g c = on_err c.from_residual-in_err-fail-in-Err.result ((w : World) → IsShown c.args.names.now c.args.capacity c.args.version.now c.args.actors.now.list w → StandsBefore c.args.actor w true) (λ w i.
    subst (StandsBefore c.args.actor w) c.if-not-is_act_next.false (c.requires.act w i))

pub give-requires-clause-there : goal.give-requires-clause-there
give-requires-clause-there g c =
    let k = kept_there c.args.actors.now.list c.args.actor.0 c.requires.there in
    let w : World = c.requires.shown.0 in
    let does : Does c.args.version.now c.perform.new.actors.list (act_result (constants_of c.args.names.now c.args.capacity) c.args.actor w c.in-Some.act) c.in_ok-value.field-0 = c.in_ok-value.ensures.ok w c.requires.shown.1 in
    let p : Performed c.args.names.now c.args.capacity c.args.version.now c.perform.new.actors.list c.args.actor w c.in-Some.act c.in_ok-value.field-0 = performed c.args.names.now c.args.capacity c.args.version.now c.args.actors.now.list c.perform.new.actors.list w c.args.actor k.0 c.in-Some.act c.in_ok-value.field-0 c.requires.shown.1 k.1 (sym (c.in_ok-act.ensures k.0 k.1) ∙ c.in-Some.is) does in
    slice_get_within c.perform.new.actors.list c.args.actor.0 p.kept p.there

pub give-requires-clause-fits : goal.give-requires-clause-fits
give-requires-clause-fits g c =
    let k = kept_there c.args.actors.now.list c.args.actor.0 c.requires.there in
    let does : Does c.args.version.now c.perform.new.actors.list (act_result (constants_of c.args.names.now c.args.capacity) c.args.actor c.requires.shown.0 c.in-Some.act) (Ok c.in-Ok.value) = subst (Does c.args.version.now c.perform.new.actors.list (act_result (constants_of c.args.names.now c.args.capacity) c.args.actor c.requires.shown.0 c.in-Some.act)) c.in-Ok.is (c.in_ok-value.ensures.ok c.requires.shown.0 c.requires.shown.1) in
    let p : Performed c.args.names.now c.args.capacity c.args.version.now c.perform.new.actors.list c.args.actor c.requires.shown.0 c.in-Some.act (Ok c.in-Ok.value) = performed c.args.names.now c.args.capacity c.args.version.now c.args.actors.now.list c.perform.new.actors.list c.requires.shown.0 c.args.actor k.0 c.in-Some.act (Ok c.in-Ok.value) c.requires.shown.1 k.1 (sym (c.in_ok-act.ensures k.0 k.1) ∙ c.in-Some.is) does in
    performed_fits c.args.names.now c.args.capacity c.args.version.now c.perform.new.actors.list c.args.actor c.requires.shown.0 c.in-Some.act (Ok c.in-Ok.value) p

pub give-requires-clause-act : goal.give-requires-clause-act
give-requires-clause-act g c =
    let k = kept_there c.args.actors.now.list c.args.actor.0 c.requires.there in
    let does : Does c.args.version.now c.perform.new.actors.list (act_result (constants_of c.args.names.now c.args.capacity) c.args.actor c.requires.shown.0 c.in-Some.act) (Ok c.in-Ok.value) = subst (Does c.args.version.now c.perform.new.actors.list (act_result (constants_of c.args.names.now c.args.capacity) c.args.actor c.requires.shown.0 c.in-Some.act)) c.in-Ok.is (c.in_ok-value.ensures.ok c.requires.shown.0 c.requires.shown.1) in
    let p : Performed c.args.names.now c.args.capacity c.args.version.now c.perform.new.actors.list c.args.actor c.requires.shown.0 c.in-Some.act (Ok c.in-Ok.value) = performed c.args.names.now c.args.capacity c.args.version.now c.args.actors.now.list c.perform.new.actors.list c.requires.shown.0 c.args.actor k.0 c.in-Some.act (Ok c.in-Ok.value) c.requires.shown.1 k.1 (sym (c.in_ok-act.ensures k.0 k.1) ∙ c.in-Some.is) does in
    performed_next c.args.names.now c.args.capacity c.args.version.now c.perform.new.actors.list c.args.actor c.requires.shown.0 c.in-Some.act (Ok c.in-Ok.value) p

pub give-requires-clause-busy : goal.give-requires-clause-busy
give-requires-clause-busy g c =
    let k = kept_there c.args.actors.now.list c.args.actor.0 c.requires.there in
    let does : Does c.args.version.now c.perform.new.actors.list (act_result (constants_of c.args.names.now c.args.capacity) c.args.actor c.requires.shown.0 c.in-Some.act) (Ok c.in-Ok.value) = subst (Does c.args.version.now c.perform.new.actors.list (act_result (constants_of c.args.names.now c.args.capacity) c.args.actor c.requires.shown.0 c.in-Some.act)) c.in-Ok.is (c.in_ok-value.ensures.ok c.requires.shown.0 c.requires.shown.1) in
    let p : Performed c.args.names.now c.args.capacity c.args.version.now c.perform.new.actors.list c.args.actor c.requires.shown.0 c.in-Some.act (Ok c.in-Ok.value) = performed c.args.names.now c.args.capacity c.args.version.now c.args.actors.now.list c.perform.new.actors.list c.requires.shown.0 c.args.actor k.0 c.in-Some.act (Ok c.in-Ok.value) c.requires.shown.1 k.1 (sym (c.in_ok-act.ensures k.0 k.1) ∙ c.in-Some.is) does in
    performed_busy c.args.names.now c.args.capacity c.args.version.now c.perform.new.actors.list c.args.actor c.requires.shown.0 c.in-Some.act (Ok c.in-Ok.value) p

pub fail-requires-clause-fits : goal.fail-requires-clause-fits
fail-requires-clause-fits g c =
    let k = kept_there c.args.actors.now.list c.args.actor.0 c.requires.there in
    let does : Does c.args.version.now c.perform.new.actors.list (act_result (constants_of c.args.names.now c.args.capacity) c.args.actor c.requires.shown.0 c.in-Some.act) (Err c.in-Err.fault) = subst (Does c.args.version.now c.perform.new.actors.list (act_result (constants_of c.args.names.now c.args.capacity) c.args.actor c.requires.shown.0 c.in-Some.act)) c.in-Err.is (c.in_ok-value.ensures.ok c.requires.shown.0 c.requires.shown.1) in
    let p : Performed c.args.names.now c.args.capacity c.args.version.now c.perform.new.actors.list c.args.actor c.requires.shown.0 c.in-Some.act (Err c.in-Err.fault) = performed c.args.names.now c.args.capacity c.args.version.now c.args.actors.now.list c.perform.new.actors.list c.requires.shown.0 c.args.actor k.0 c.in-Some.act (Err c.in-Err.fault) c.requires.shown.1 k.1 (sym (c.in_ok-act.ensures k.0 k.1) ∙ c.in-Some.is) does in
    performed_fits c.args.names.now c.args.capacity c.args.version.now c.perform.new.actors.list c.args.actor c.requires.shown.0 c.in-Some.act (Err c.in-Err.fault) p

pub fail-requires-clause-act : goal.fail-requires-clause-act
fail-requires-clause-act g c =
    let k = kept_there c.args.actors.now.list c.args.actor.0 c.requires.there in
    let does : Does c.args.version.now c.perform.new.actors.list (act_result (constants_of c.args.names.now c.args.capacity) c.args.actor c.requires.shown.0 c.in-Some.act) (Err c.in-Err.fault) = subst (Does c.args.version.now c.perform.new.actors.list (act_result (constants_of c.args.names.now c.args.capacity) c.args.actor c.requires.shown.0 c.in-Some.act)) c.in-Err.is (c.in_ok-value.ensures.ok c.requires.shown.0 c.requires.shown.1) in
    let p : Performed c.args.names.now c.args.capacity c.args.version.now c.perform.new.actors.list c.args.actor c.requires.shown.0 c.in-Some.act (Err c.in-Err.fault) = performed c.args.names.now c.args.capacity c.args.version.now c.args.actors.now.list c.perform.new.actors.list c.requires.shown.0 c.args.actor k.0 c.in-Some.act (Err c.in-Err.fault) c.requires.shown.1 k.1 (sym (c.in_ok-act.ensures k.0 k.1) ∙ c.in-Some.is) does in
    performed_next c.args.names.now c.args.capacity c.args.version.now c.perform.new.actors.list c.args.actor c.requires.shown.0 c.in-Some.act (Err c.in-Err.fault) p

pub fail-requires-clause-busy : goal.fail-requires-clause-busy
fail-requires-clause-busy g c =
    let k = kept_there c.args.actors.now.list c.args.actor.0 c.requires.there in
    let does : Does c.args.version.now c.perform.new.actors.list (act_result (constants_of c.args.names.now c.args.capacity) c.args.actor c.requires.shown.0 c.in-Some.act) (Err c.in-Err.fault) = subst (Does c.args.version.now c.perform.new.actors.list (act_result (constants_of c.args.names.now c.args.capacity) c.args.actor c.requires.shown.0 c.in-Some.act)) c.in-Err.is (c.in_ok-value.ensures.ok c.requires.shown.0 c.requires.shown.1) in
    let p : Performed c.args.names.now c.args.capacity c.args.version.now c.perform.new.actors.list c.args.actor c.requires.shown.0 c.in-Some.act (Err c.in-Err.fault) = performed c.args.names.now c.args.capacity c.args.version.now c.args.actors.now.list c.perform.new.actors.list c.requires.shown.0 c.args.actor k.0 c.in-Some.act (Err c.in-Err.fault) c.requires.shown.1 k.1 (sym (c.in_ok-act.ensures k.0 k.1) ∙ c.in-Some.is) does in
    performed_busy c.args.names.now c.args.capacity c.args.version.now c.perform.new.actors.list c.args.actor c.requires.shown.0 c.in-Some.act (Err c.in-Err.fault) p

pub returns-in-Ok-clause-ok : goal.returns-in-Ok-clause-ok
returns-in-Ok-clause-ok g c = λ w i.
    let k = kept_there c.args.actors.now.list c.args.actor.0 c.requires.there in
    let does : Does c.args.version.now c.perform.new.actors.list (act_result (constants_of c.args.names.now c.args.capacity) c.args.actor w c.in-Some.act) (Ok c.in-Ok.value) = subst (Does c.args.version.now c.perform.new.actors.list (act_result (constants_of c.args.names.now c.args.capacity) c.args.actor w c.in-Some.act)) c.in-Ok.is (c.in_ok-value.ensures.ok w i) in
    let p : Performed c.args.names.now c.args.capacity c.args.version.now c.perform.new.actors.list c.args.actor w c.in-Some.act (Ok c.in-Ok.value) = performed c.args.names.now c.args.capacity c.args.version.now c.args.actors.now.list c.perform.new.actors.list w c.args.actor k.0 c.in-Some.act (Ok c.in-Ok.value) i k.1 (sym (c.in_ok-act.ensures k.0 k.1) ∙ c.in-Some.is) does in
    (subst (StandsBefore c.args.actor w) c.if-not-is_act_next.false (c.requires.act w i), performed_given c.args.names.now c.args.capacity c.args.version.now c.perform.new.actors.list c.give.new.self.list c.args.actor w c.in-Some.act (Ok c.in-Ok.value) p (λ k x e f. kept_is _ _ (c.give.ensures k x e f)))

pub returns-in-Ok-clause-grown : goal.returns-in-Ok-clause-grown
returns-in-Ok-clause-grown g c =
    let k = kept_there c.args.actors.now.list c.args.actor.0 c.requires.there in
    let does : Does c.args.version.now c.perform.new.actors.list (act_result (constants_of c.args.names.now c.args.capacity) c.args.actor c.requires.shown.0 c.in-Some.act) (Ok c.in-Ok.value) = subst (Does c.args.version.now c.perform.new.actors.list (act_result (constants_of c.args.names.now c.args.capacity) c.args.actor c.requires.shown.0 c.in-Some.act)) c.in-Ok.is (c.in_ok-value.ensures.ok c.requires.shown.0 c.requires.shown.1) in
    let p : Performed c.args.names.now c.args.capacity c.args.version.now c.perform.new.actors.list c.args.actor c.requires.shown.0 c.in-Some.act (Ok c.in-Ok.value) = performed c.args.names.now c.args.capacity c.args.version.now c.args.actors.now.list c.perform.new.actors.list c.requires.shown.0 c.args.actor k.0 c.in-Some.act (Ok c.in-Ok.value) c.requires.shown.1 k.1 (sym (c.in_ok-act.ensures k.0 k.1) ∙ c.in-Some.is) does in
    performed_grows c.args.names.now c.args.capacity c.args.version.now c.args.actors.now.list c.perform.new.actors.list c.give.new.self.list c.args.actor c.requires.shown.0 c.in-Some.act (Ok c.in-Ok.value) p c.in_ok-value.ensures.grown (λ k x e f. kept_is _ _ (c.give.ensures k x e f))

pub returns-in_ok-fail-in-Err-clause-ok : goal.returns-in_ok-fail-in-Err-clause-ok
returns-in_ok-fail-in-Err-clause-ok g c = λ w i.
    let k = kept_there c.args.actors.now.list c.args.actor.0 c.requires.there in
    let does : Does c.args.version.now c.perform.new.actors.list (act_result (constants_of c.args.names.now c.args.capacity) c.args.actor w c.in-Some.act) (Err c.in-Err.fault) = subst (Does c.args.version.now c.perform.new.actors.list (act_result (constants_of c.args.names.now c.args.capacity) c.args.actor w c.in-Some.act)) c.in-Err.is (c.in_ok-value.ensures.ok w i) in
    let p : Performed c.args.names.now c.args.capacity c.args.version.now c.perform.new.actors.list c.args.actor w c.in-Some.act (Err c.in-Err.fault) = performed c.args.names.now c.args.capacity c.args.version.now c.args.actors.now.list c.perform.new.actors.list w c.args.actor k.0 c.in-Some.act (Err c.in-Err.fault) i k.1 (sym (c.in_ok-act.ensures k.0 k.1) ∙ c.in-Some.is) does in
    (subst (StandsBefore c.args.actor w) c.if-not-is_act_next.false (c.requires.act w i), performed_given c.args.names.now c.args.capacity c.args.version.now c.perform.new.actors.list c.fail.new.self.list c.args.actor w c.in-Some.act (Err c.in-Err.fault) p (λ k x e f. kept_is _ _ (c.in_ok-fail-in-Err.ensures.ok k x e f)))

pub returns-in_ok-fail-in-Err-clause-grown : goal.returns-in_ok-fail-in-Err-clause-grown
returns-in_ok-fail-in-Err-clause-grown g c =
    let k = kept_there c.args.actors.now.list c.args.actor.0 c.requires.there in
    let does : Does c.args.version.now c.perform.new.actors.list (act_result (constants_of c.args.names.now c.args.capacity) c.args.actor c.requires.shown.0 c.in-Some.act) (Err c.in-Err.fault) = subst (Does c.args.version.now c.perform.new.actors.list (act_result (constants_of c.args.names.now c.args.capacity) c.args.actor c.requires.shown.0 c.in-Some.act)) c.in-Err.is (c.in_ok-value.ensures.ok c.requires.shown.0 c.requires.shown.1) in
    let p : Performed c.args.names.now c.args.capacity c.args.version.now c.perform.new.actors.list c.args.actor c.requires.shown.0 c.in-Some.act (Err c.in-Err.fault) = performed c.args.names.now c.args.capacity c.args.version.now c.args.actors.now.list c.perform.new.actors.list c.requires.shown.0 c.args.actor k.0 c.in-Some.act (Err c.in-Err.fault) c.requires.shown.1 k.1 (sym (c.in_ok-act.ensures k.0 k.1) ∙ c.in-Some.is) does in
    performed_grows c.args.names.now c.args.capacity c.args.version.now c.args.actors.now.list c.perform.new.actors.list c.fail.new.self.list c.args.actor c.requires.shown.0 c.in-Some.act (Err c.in-Err.fault) p c.in_ok-value.ensures.grown (λ k x e f. kept_is _ _ (c.in_ok-fail-in-Err.ensures.ok k x e f))

pub returns-in-Ok-clause-out : goal.returns-in-Ok-clause-out
returns-in-Ok-clause-out g c =
    let k = kept_there c.args.actors.now.list c.args.actor.0 c.requires.there in
    let does : Does c.args.version.now c.perform.new.actors.list (act_result (constants_of c.args.names.now c.args.capacity) c.args.actor c.requires.shown.0 c.in-Some.act) (Ok c.in-Ok.value) = subst (Does c.args.version.now c.perform.new.actors.list (act_result (constants_of c.args.names.now c.args.capacity) c.args.actor c.requires.shown.0 c.in-Some.act)) c.in-Ok.is (c.in_ok-value.ensures.ok c.requires.shown.0 c.requires.shown.1) in
    let p : Performed c.args.names.now c.args.capacity c.args.version.now c.perform.new.actors.list c.args.actor c.requires.shown.0 c.in-Some.act (Ok c.in-Ok.value) = performed c.args.names.now c.args.capacity c.args.version.now c.args.actors.now.list c.perform.new.actors.list c.requires.shown.0 c.args.actor k.0 c.in-Some.act (Ok c.in-Ok.value) c.requires.shown.1 k.1 (sym (c.in_ok-act.ensures k.0 k.1) ∙ c.in-Some.is) does in
    then_out c.args.actors.now.out c.perform.new.actors.out c.give.new.self.out c.in_ok-value.ensures.out (ap (λ (v : ActorsView). v.out) (c.give.ensures p.kept c.in-Some.act p.there p.next))

pub returns-in_ok-fail-in-Err-clause-out : goal.returns-in_ok-fail-in-Err-clause-out
returns-in_ok-fail-in-Err-clause-out g c =
    let k = kept_there c.args.actors.now.list c.args.actor.0 c.requires.there in
    let does : Does c.args.version.now c.perform.new.actors.list (act_result (constants_of c.args.names.now c.args.capacity) c.args.actor c.requires.shown.0 c.in-Some.act) (Err c.in-Err.fault) = subst (Does c.args.version.now c.perform.new.actors.list (act_result (constants_of c.args.names.now c.args.capacity) c.args.actor c.requires.shown.0 c.in-Some.act)) c.in-Err.is (c.in_ok-value.ensures.ok c.requires.shown.0 c.requires.shown.1) in
    let p : Performed c.args.names.now c.args.capacity c.args.version.now c.perform.new.actors.list c.args.actor c.requires.shown.0 c.in-Some.act (Err c.in-Err.fault) = performed c.args.names.now c.args.capacity c.args.version.now c.args.actors.now.list c.perform.new.actors.list c.requires.shown.0 c.args.actor k.0 c.in-Some.act (Err c.in-Err.fault) c.requires.shown.1 k.1 (sym (c.in_ok-act.ensures k.0 k.1) ∙ c.in-Some.is) does in
    then_out c.args.actors.now.out c.perform.new.actors.out c.fail.new.self.out c.in_ok-value.ensures.out (ap (λ (v : ActorsView). v.out) (c.in_ok-fail-in-Err.ensures.ok p.kept c.in-Some.act p.there p.next))

pub fail-requires-clause-there : goal.fail-requires-clause-there
fail-requires-clause-there g c =
    let same : c.perform.new.actors ≡ c.args.actors.now = c.in_ok-value.ensures.fault (subst (λ (r : Result Value Fault). IsErr r) (sym c.in-Err.is) refl) in
    subst (λ (v : ActorsView). c.args.actor.0 < length v.list) (sym same) c.requires.there

pub fail-requires-clause-few : goal.fail-requires-clause-few
fail-requires-clause-few g c = λ k at.
    let same : c.perform.new.actors ≡ c.args.actors.now = c.in_ok-value.ensures.fault (subst (λ (r : Result Value Fault). IsErr r) (sym c.in-Err.is) refl) in
    at_all (λ (x : ActorView). x.accepted < 2 ^ 63) c.args.actors.now.list c.args.actor.0 k c.requires.few (subst (λ (v : ActorsView). slice_get v.list c.args.actor.0 ≡ Some k) same at)
