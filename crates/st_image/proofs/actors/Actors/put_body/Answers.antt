use Rattle.std.proofs.Common.{◌≡◌, ◌<◌, Some, length, slice_get, sym, subst, ap, ◌∙◌}
use Rattle.st_image.specs.ActorViews.{ActorView, ActorsView, AreActors, view_after_steps}
use Rattle.st_image.proofs.Outer.{on_err}
use Rattle.st_image.proofs.FreeOnes.{here, put_same, put_view, mark_kept, only_one}
use Rattle.st_image.proofs.actors.Actors.put_body.Goals as goal

pub invariant_of-self-2 : goal.invariant_of-self-2
invariant_of-self-2 g c =
    let i = c.self.inside in
    let v : ActorsView = record { list = i.items.items; out = i.out.items } in
    let k : ActorView = c.index_mut-item.result.now in
    let within : c.args.actor.0 < length i.items.items = subst (λ (x : ActorsView). c.args.actor.0 < length x.list) (sym c.self.view_is) c.requires.there in
    let at : slice_get i.items.items c.args.actor.0 ≡ Some k = here i.items.items c.args.actor.0 k within c.index_mut-item.ensures.value in
    mark_kept v i.free c.set.new.self c.args.actor.0 c.put_body.new.self c.is_ready.result c.is_free-free.result c.index.result.now c.self.invariant within c.index.ensures c.is_ready.ensures c.is_free-free.ensures c.set.ensures

pub returns-clause-was : goal.returns-clause-was
returns-clause-was g c = λ l e.
    let i = c.self.inside in
    let v : ActorsView = record { list = i.items.items; out = i.out.items } in
    let k : ActorView = c.index_mut-item.result.now in
    let within : c.args.actor.0 < length i.items.items = subst (λ (x : ActorsView). c.args.actor.0 < length x.list) (sym c.self.view_is) c.requires.there in
    let at : slice_get i.items.items c.args.actor.0 ≡ Some k = here i.items.items c.args.actor.0 k within c.index_mut-item.ensures.value in
    let same : k ≡ l = only_one i.items.items c.args.actor.0 k l at (subst (λ (x : ActorsView). slice_get x.list c.args.actor.0 ≡ Some l) (sym c.self.view_is) e) in
    c.in_ok-was.ensures.was ∙ ap (λ (x : ActorView). x.body) same

pub returns-clause-ok : goal.returns-clause-ok
returns-clause-ok g c =
    let i = c.self.inside in
    let v : ActorsView = record { list = i.items.items; out = i.out.items } in
    let k : ActorView = c.index_mut-item.result.now in
    let within : c.args.actor.0 < length i.items.items = subst (λ (x : ActorsView). c.args.actor.0 < length x.list) (sym c.self.view_is) c.requires.there in
    let at : slice_get i.items.items c.args.actor.0 ≡ Some k = here i.items.items c.args.actor.0 k within c.index_mut-item.ensures.value in
    put_view (view_after_steps c.args.body) v c.args.self.now c.args.actor.0 k c.put_body.new.self c.self.view_is at c.in_ok-was.ensures.ok

pub invariant_of-self : goal.invariant_of-self
invariant_of-self g c =
    let i = c.self.inside in
    let v : ActorsView = record { list = i.items.items; out = i.out.items } in
    let k : ActorView = c.index_mut-item.result.now in
    let within : c.args.actor.0 < length i.items.items = subst (λ (x : ActorsView). c.args.actor.0 < length x.list) (sym c.self.view_is) c.requires.there in
    let at : slice_get i.items.items c.args.actor.0 ≡ Some k = here i.items.items c.args.actor.0 k within c.index_mut-item.ensures.value in
    subst (λ (x : ActorsView). AreActors x i.free) (sym (put_same v c.args.actor.0 k c.put_body.new.self at c.in_err-was.ensures.err)) c.self.invariant

pub returns-in_err-was-clause-err : goal.returns-in_err-was-clause-err
returns-in_err-was-clause-err g c =
    let i = c.self.inside in
    let v : ActorsView = record { list = i.items.items; out = i.out.items } in
    let k : ActorView = c.index_mut-item.result.now in
    let within : c.args.actor.0 < length i.items.items = subst (λ (x : ActorsView). c.args.actor.0 < length x.list) (sym c.self.view_is) c.requires.there in
    let at : slice_get i.items.items c.args.actor.0 ≡ Some k = here i.items.items c.args.actor.0 k within c.index_mut-item.ensures.value in
    on_err c.from_residual.result _ (put_same v c.args.actor.0 k c.put_body.new.self at c.in_err-was.ensures.err ∙ c.self.view_is)

pub put_body-requires-clause-busy : goal.put_body-requires-clause-busy
put_body-requires-clause-busy g c =
    let i = c.self.inside in
    let k : ActorView = c.index_mut-item.result.now in
    let within : c.args.actor.0 < length i.items.items = subst (λ (x : ActorsView). c.args.actor.0 < length x.list) (sym c.self.view_is) c.requires.there in
    let at : slice_get i.items.items c.args.actor.0 ≡ Some k = here i.items.items c.args.actor.0 k within c.index_mut-item.ensures.value in
    c.requires.busy k (subst (λ (x : ActorsView). slice_get x.list c.args.actor.0 ≡ Some k) c.self.view_is at)

pub put_body-requires-clause-few : goal.put_body-requires-clause-few
put_body-requires-clause-few g c =
    let i = c.self.inside in
    let k : ActorView = c.index_mut-item.result.now in
    let within : c.args.actor.0 < length i.items.items = subst (λ (x : ActorsView). c.args.actor.0 < length x.list) (sym c.self.view_is) c.requires.there in
    let at : slice_get i.items.items c.args.actor.0 ≡ Some k = here i.items.items c.args.actor.0 k within c.index_mut-item.ensures.value in
    c.requires.few k (subst (λ (x : ActorsView). slice_get x.list c.args.actor.0 ≡ Some k) c.self.view_is at)
