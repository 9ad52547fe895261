use Rattle.std.proofs.Common.{◌≡◌, ℕ, ◌<◌, ◌^◌, ◌≤◌, length, List, Some, false, true, slice_get, sym, ap, ◌∙◌, subst}
use Rattle.std.specs.Prelude.{All}
use Rattle.st_turn.specs.Idle.{is_idle}
use Rattle.st_image.specs.Worlds.{change_at}
use Rattle.st_image.specs.ActResults.{FewAccepted, IsShown, StandsBefore}
use Rattle.st_image.specs.ActorViews.{ActorView, ActorsView, view_after_steps}
use Rattle.st_image.proofs.Changing.{All-change, get-change, length-change}
use Rattle.st_image.proofs.Places.{at_all}
use Rattle.st_image.proofs.Outer.{kept_there}
use Rattle.st_image.proofs.Acts.{kept_is}
use Rattle.st_image.proofs.Committing.{own_accepts, restored, stood_busy}
use Rattle.st_image.proofs.acting.put_steps.Goals as goal

pub take_outer-requires-clause-act : goal.take_outer-requires-clause-act
take_outer-requires-clause-act g c = λ w shown.
    let mid : List ActorView = change_at (view_after_steps c.args.after) c.args.actor.0 c.args.actors.now.list in
    let put : c.put_body.new.self.list ≡ mid = kept_is _ _ c.in-Ok.ensures.ok in
    c.requires.act w (subst (λ (xs : List ActorView). IsShown c.args.names.now c.args.capacity c.args.version.now xs w) put shown)

pub put_back-requires-clause-busy : goal.put_back-requires-clause-busy
put_back-requires-clause-busy g c = λ l e.
    let ks : List ActorView = c.args.actors.now.list in
    let mid : List ActorView = change_at (view_after_steps c.args.after) c.args.actor.0 ks in
    let k = kept_there ks c.args.actor.0 c.requires.there in
    let put : c.put_body.new.self.list ≡ mid = kept_is _ _ c.in-Ok.ensures.ok in
    let same : c.take_outer.new.actors ≡ c.put_body.new.self = c.in-Err-take_outer.ensures.err in
    let shown : IsShown c.args.names.now c.args.capacity c.args.version.now c.put_body.new.self.list c.requires.shown.0 = subst (λ (xs : List ActorView). IsShown c.args.names.now c.args.capacity c.args.version.now xs c.requires.shown.0) (sym put) c.requires.shown.1 in
    let stands : StandsBefore c.args.actor c.requires.shown.0 true = c.in-Err-take_outer.ensures.stands c.requires.shown.0 shown in
    let at : slice_get mid c.args.actor.0 ≡ Some (view_after_steps c.args.after k.0) = get-change (view_after_steps c.args.after) c.args.actor.0 ks k.0 k.1 in
    let busy : is_idle c.args.after.phase ≡ false = stood_busy c.args.names.now c.args.capacity c.args.version.now mid c.requires.shown.0 c.args.actor (view_after_steps c.args.after k.0) c.requires.shown.1 at stands in
    let at' : slice_get mid c.args.actor.0 ≡ Some l = subst (λ (xs : List ActorView). slice_get xs c.args.actor.0 ≡ Some l) (kept_is _ _ same ∙ put) e in
    stood_busy c.args.names.now c.args.capacity c.args.version.now mid c.requires.shown.0 c.args.actor l c.requires.shown.1 at' stands

pub put_back-requires-clause-still : goal.put_back-requires-clause-still
put_back-requires-clause-still g c =
    let ks : List ActorView = c.args.actors.now.list in
    let mid : List ActorView = change_at (view_after_steps c.args.after) c.args.actor.0 ks in
    let k = kept_there ks c.args.actor.0 c.requires.there in
    let put : c.put_body.new.self.list ≡ mid = kept_is _ _ c.in-Ok.ensures.ok in
    ap (λ b. is_idle b.phase) (c.in-Ok.ensures.was k.0 k.1) ∙ c.requires.busy k.0 k.1

pub returns-in-Ok-take_outer-clause-grown : goal.returns-in-Ok-take_outer-clause-grown
returns-in-Ok-take_outer-clause-grown g c = λ bound h.
    let ks : List ActorView = c.args.actors.now.list in
    let mid : List ActorView = change_at (view_after_steps c.args.after) c.args.actor.0 ks in
    let k = kept_there ks c.args.actor.0 c.requires.there in
    let put : c.put_body.new.self.list ≡ mid = kept_is _ _ c.in-Ok.ensures.ok in
    c.in-Ok-take_outer.ensures.grown bound (subst (All (λ (x : ActorView). x.accepted ≤ bound)) (sym put) (own_accepts (λ (n : ℕ). n ≤ bound) ks c.args.after c.args.actor.0 h))

pub returns-in-Err-take_outer-clause-back : goal.returns-in-Err-take_outer-clause-back
returns-in-Err-take_outer-clause-back g c =
    let ks : List ActorView = c.args.actors.now.list in
    let mid : List ActorView = change_at (view_after_steps c.args.after) c.args.actor.0 ks in
    let k = kept_there ks c.args.actor.0 c.requires.there in
    let put : c.put_body.new.self.list ≡ mid = kept_is _ _ c.in-Ok.ensures.ok in
    let same : c.take_outer.new.actors ≡ c.put_body.new.self = c.in-Err-take_outer.ensures.err in
    let shown : IsShown c.args.names.now c.args.capacity c.args.version.now c.put_body.new.self.list c.requires.shown.0 = subst (λ (xs : List ActorView). IsShown c.args.names.now c.args.capacity c.args.version.now xs c.requires.shown.0) (sym put) c.requires.shown.1 in
    let stands : StandsBefore c.args.actor c.requires.shown.0 true = c.in-Err-take_outer.ensures.stands c.requires.shown.0 shown in
    let at : slice_get mid c.args.actor.0 ≡ Some (view_after_steps c.args.after k.0) = get-change (view_after_steps c.args.after) c.args.actor.0 ks k.0 k.1 in
    let busy : is_idle c.args.after.phase ≡ false = stood_busy c.args.names.now c.args.capacity c.args.version.now mid c.requires.shown.0 c.args.actor (view_after_steps c.args.after k.0) c.requires.shown.1 at stands in
    let at' : slice_get c.take_outer.new.actors.list c.args.actor.0 ≡ Some (view_after_steps c.args.after k.0) = subst (λ (xs : List ActorView). slice_get xs c.args.actor.0 ≡ Some (view_after_steps c.args.after k.0)) (sym (kept_is _ _ same ∙ put)) at in
    c.put_back.ensures.had (view_after_steps c.args.after k.0) at'

pub returns-in-Err-take_outer-clause-err : goal.returns-in-Err-take_outer-clause-err
returns-in-Err-take_outer-clause-err g c =
    let ks : List ActorView = c.args.actors.now.list in
    let mid : List ActorView = change_at (view_after_steps c.args.after) c.args.actor.0 ks in
    let k = kept_there ks c.args.actor.0 c.requires.there in
    let put : c.put_body.new.self.list ≡ mid = kept_is _ _ c.in-Ok.ensures.ok in
    let same : c.take_outer.new.actors ≡ c.put_body.new.self = c.in-Err-take_outer.ensures.err in
    let shown : IsShown c.args.names.now c.args.capacity c.args.version.now c.put_body.new.self.list c.requires.shown.0 = subst (λ (xs : List ActorView). IsShown c.args.names.now c.args.capacity c.args.version.now xs c.requires.shown.0) (sym put) c.requires.shown.1 in
    let stands : StandsBefore c.args.actor c.requires.shown.0 true = c.in-Err-take_outer.ensures.stands c.requires.shown.0 shown in
    let at : slice_get mid c.args.actor.0 ≡ Some (view_after_steps c.args.after k.0) = get-change (view_after_steps c.args.after) c.args.actor.0 ks k.0 k.1 in
    let busy : is_idle c.args.after.phase ≡ false = stood_busy c.args.names.now c.args.capacity c.args.version.now mid c.requires.shown.0 c.args.actor (view_after_steps c.args.after k.0) c.requires.shown.1 at stands in
    let all : c.take_outer.new.actors ≡ (let x : ActorsView = record c.args.actors.now { list = mid } in x) = same ∙ c.in-Ok.ensures.ok in
    c.put_back.ensures.back ∙ ap (λ (v : ActorsView). let x : ActorsView = record v { list = change_at (λ (y : ActorView). record y { body = c.in-Ok.was }) c.args.actor.0 v.list } in x) all ∙ ap (λ (xs : List ActorView). let x : ActorsView = record c.args.actors.now { list = xs } in x) (restored ks c.args.actor.0 k.0 c.args.after c.in-Ok.was k.1 busy (c.in-Ok.ensures.was k.0 k.1))

pub put_body-requires-clause-few : goal.put_body-requires-clause-few
put_body-requires-clause-few g c = λ k at. at_all (λ (x : ActorView). x.accepted < 2 ^ 63) c.args.actors.now.list c.args.actor.0 k c.requires.few at

pub take_outer-requires-clause-there : goal.take_outer-requires-clause-there
take_outer-requires-clause-there g c =
    let ks : List ActorView = c.args.actors.now.list in
    let put : c.put_body.new.self.list ≡ change_at (view_after_steps c.args.after) c.args.actor.0 ks = kept_is _ _ c.in-Ok.ensures.ok in
    subst (λ (xs : List ActorView). c.args.actor.0 < length xs) (sym put) (subst (λ (n : ℕ). c.args.actor.0 < n) (sym (length-change (view_after_steps c.args.after) c.args.actor.0 ks)) c.requires.there)

pub take_outer-requires-clause-few : goal.take_outer-requires-clause-few
take_outer-requires-clause-few g c =
    let ks : List ActorView = c.args.actors.now.list in
    let put : c.put_body.new.self.list ≡ change_at (view_after_steps c.args.after) c.args.actor.0 ks = kept_is _ _ c.in-Ok.ensures.ok in
    subst FewAccepted (sym put) (All-change (λ (x : ActorView). x.accepted < 2 ^ 63) (view_after_steps c.args.after) c.args.actor.0 ks (λ x at few. few) c.requires.few)

pub take_outer-requires-clause-shown : goal.take_outer-requires-clause-shown
take_outer-requires-clause-shown g c =
    let put : c.put_body.new.self.list ≡ change_at (view_after_steps c.args.after) c.args.actor.0 c.args.actors.now.list = kept_is _ _ c.in-Ok.ensures.ok in
    (c.requires.shown.0, subst (λ (xs : List ActorView). IsShown c.args.names.now c.args.capacity c.args.version.now xs c.requires.shown.0) (sym put) c.requires.shown.1)
