use Rattle.std.proofs.Common.{◌≡◌, ◌<◌, Some, length, slice_get, sym, subst, ap, ◌∙◌, Err}
use Rattle.st_turn.specs.Steps.{outer, reply_body, step}
use Rattle.st_image.specs.ActorViews.{ActorView, ActorsView, AreActors, view_after_steps}
use Rattle.st_image.proofs.Outer.{on_err}
use Rattle.st_image.proofs.FreeOnes.{here, put_same, put_view, mark_kept, only_one}
use Rattle.st_image.proofs.actors.Actors.fail.Goals as goal

pub invariant_of-self-2 : goal.invariant_of-self-2
invariant_of-self-2 g c =
    let i = c.self.inside in
    let v : ActorsView = record { list = i.items.items; out = i.out.items } in
    let k : ActorView = c.index_mut-item.result.now in
    let within : c.args.actor.0 < length i.items.items = subst (λ (x : ActorsView). c.args.actor.0 < length x.list) (sym c.self.view_is) c.requires.there in
    let at : slice_get i.items.items c.args.actor.0 ≡ Some k = here i.items.items c.args.actor.0 k within c.index_mut-item.ensures.value in
    mark_kept v i.free c.set.new.self c.args.actor.0 c.fail.new.self c.is_ready.result c.is_free-free.result c.index.result.now c.self.invariant within c.index.ensures c.is_ready.ensures c.is_free-free.ensures c.set.ensures

pub returns-clause-ok : goal.returns-clause-ok
returns-clause-ok g c = λ l act e f.
    let i = c.self.inside in
    let v : ActorsView = record { list = i.items.items; out = i.out.items } in
    let k : ActorView = c.index_mut-item.result.now in
    let within : c.args.actor.0 < length i.items.items = subst (λ (x : ActorsView). c.args.actor.0 < length x.list) (sym c.self.view_is) c.requires.there in
    let at : slice_get i.items.items c.args.actor.0 ≡ Some k = here i.items.items c.args.actor.0 k within c.index_mut-item.ensures.value in
    let same : k ≡ l = only_one i.items.items c.args.actor.0 k l at (subst (λ (x : ActorsView). slice_get x.list c.args.actor.0 ≡ Some l) (sym c.self.view_is) e) in
    let step_is : step c.args.version.now c.args.actor k.body ≡ outer act = subst (λ (x : ActorView). step c.args.version.now c.args.actor x.body ≡ outer act) (sym same) f in
    put_view (view_after_steps (reply_body act (Err c.args.fault) l.body)) v c.args.self.now c.args.actor.0 k c.fail.new.self c.self.view_is at (c.in_ok-fail.ensures.ok act step_is ∙ ap (λ (x : ActorView). view_after_steps (reply_body act (Err c.args.fault) x.body) k) same)

pub invariant_of-self : goal.invariant_of-self
invariant_of-self g c =
    let i = c.self.inside in
    let v : ActorsView = record { list = i.items.items; out = i.out.items } in
    let k : ActorView = c.index_mut-item.result.now in
    let within : c.args.actor.0 < length i.items.items = subst (λ (x : ActorsView). c.args.actor.0 < length x.list) (sym c.self.view_is) c.requires.there in
    let at : slice_get i.items.items c.args.actor.0 ≡ Some k = here i.items.items c.args.actor.0 k within c.index_mut-item.ensures.value in
    subst (λ (x : ActorsView). AreActors x i.free) (sym (put_same v c.args.actor.0 k c.fail.new.self at c.in_err-fail.ensures.err)) c.self.invariant

pub returns-in_err-fail-clause-err : goal.returns-in_err-fail-clause-err
returns-in_err-fail-clause-err g c =
    let i = c.self.inside in
    let v : ActorsView = record { list = i.items.items; out = i.out.items } in
    let k : ActorView = c.index_mut-item.result.now in
    let within : c.args.actor.0 < length i.items.items = subst (λ (x : ActorsView). c.args.actor.0 < length x.list) (sym c.self.view_is) c.requires.there in
    let at : slice_get i.items.items c.args.actor.0 ≡ Some k = here i.items.items c.args.actor.0 k within c.index_mut-item.ensures.value in
    on_err c.from_residual.result _ (put_same v c.args.actor.0 k c.fail.new.self at c.in_err-fail.ensures.err ∙ c.self.view_is)

pub fail-requires-clause-fits : goal.fail-requires-clause-fits
fail-requires-clause-fits g c =
    let i = c.self.inside in
    let k : ActorView = c.index_mut-item.result.now in
    let within : c.args.actor.0 < length i.items.items = subst (λ (x : ActorsView). c.args.actor.0 < length x.list) (sym c.self.view_is) c.requires.there in
    let at : slice_get i.items.items c.args.actor.0 ≡ Some k = here i.items.items c.args.actor.0 k within c.index_mut-item.ensures.value in
    c.requires.fits k (subst (λ (x : ActorsView). slice_get x.list c.args.actor.0 ≡ Some k) c.self.view_is at)

pub fail-requires-clause-act : goal.fail-requires-clause-act
fail-requires-clause-act g c =
    let i = c.self.inside in
    let k : ActorView = c.index_mut-item.result.now in
    let within : c.args.actor.0 < length i.items.items = subst (λ (x : ActorsView). c.args.actor.0 < length x.list) (sym c.self.view_is) c.requires.there in
    let at : slice_get i.items.items c.args.actor.0 ≡ Some k = here i.items.items c.args.actor.0 k within c.index_mut-item.ensures.value in
    c.requires.act k (subst (λ (x : ActorsView). slice_get x.list c.args.actor.0 ≡ Some k) c.self.view_is at)

pub fail-requires-clause-few : goal.fail-requires-clause-few
fail-requires-clause-few g c =
    let i = c.self.inside in
    let k : ActorView = c.index_mut-item.result.now in
    let within : c.args.actor.0 < length i.items.items = subst (λ (x : ActorsView). c.args.actor.0 < length x.list) (sym c.self.view_is) c.requires.there in
    let at : slice_get i.items.items c.args.actor.0 ≡ Some k = here i.items.items c.args.actor.0 k within c.index_mut-item.ensures.value in
    c.requires.few k (subst (λ (x : ActorsView). slice_get x.list c.args.actor.0 ≡ Some k) c.self.view_is at)
